-- One walk over the steps: what holds of each form of a ruling, on the grounds that lead to it, holds of every ruling.
use Prim.Native.Nat.{ℕ}
use mathlib.Core.Path.{◌≡◌, refl}
use mathlib.Core.Bool.{true, false}
use mathlib.Core.Logic.{◌⊎◌, inl, inr}
use Rattle.wire.specs.Tests.{in_range}
use Rattle.wire.proofs.Tests.{either, range_high, range_ends, range_wider}
use Rattle.bands.specs.Table.{band_of}
use Rattle.bands.specs.Amounts.{in_error}
use Rattle.parties.specs.Parties.{any_customer}
use Rattle.agreement.specs.Agreed.{heeded_of, accepted_in_time}
use Rattle.act.specs.Minimum.{minimum_of}
use Rattle.act.specs.Act.{act_of}
use Rattle.act.specs.Numbers.{act_outcome, act_reason, fits}
use Rattle.act.proofs.Reasons.{act_told}
use Rattle.ruling.specs.Words.{Mills, Facts, Way, Obvious, Opening, Catastrophic, Open, Some, None, Source, Theory, Heeded, Ignored, Repriced, Undone, Act, Adjust, Nullify, Leave, Ruling}
use Rattle.ruling.specs.Ruling.{no_relief, waiting, nullify, adjust, carried_out, settled, ruled_at, ruled_from, ruled_on, ruled_by, ruled_if, ruling_of}
use Rattle.ruling.specs.Numbers.{way_in, theory_in, not_looked_for}

-- the act that these facts come to, on a way at a TP
abbrev pub act_at : Facts → Way → Source → Act
act_at f way s = act_of way f.request.side f.buyer f.seller (accepted_in_time f.settlement.accepted) s.price (band_of s.price)

-- the trade is in error, on a way at a TP
abbrev pub InError : Facts → Way → Source → Type 0
InError f way s = in_error f.request.side f.trade.price s.price (minimum_of way (band_of s.price)) ≡ true

-- the parties' agreement counts
abbrev pub heeded_at : Facts → Way → Heeded
heeded_at f way = heeded_of f.settlement way (any_customer f.buyer.kind f.seller.kind)

-- ---- the grounds of an adjustment: the way is open, TP was found, the trade is in error, and the price is the agreed one or the act's
pub record Grounds (f : Facts) (way : Way) (s : Source) (reason : ℕ) (price : Mills) : Type 0 where
  pub opened : way_in f ≡ Some way
  pub found : theory_in f ≡ Some s
  pub error : InError f way s
  pub cause : ((reason ≡ 10) × (heeded_at f way ≡ Repriced price)) ⊎ ((in_range 6 9 reason ≡ true) × (act_at f way s ≡ Adjust (record { reason = reason; price = price })))

module _ (f : Facts) (P : Ruling → Type 0)
    (shut : (r : ℕ) → not_looked_for r ≡ true → P (no_relief f.trade r None))
    (wait : theory_in f ≡ None → P (waiting f.trade))
    (left : (s : Source) (r : ℕ) → theory_in f ≡ Some s → in_range 1 5 r ≡ true → not_looked_for r ≡ false → P (no_relief f.trade r (Some s)))
    (undone : (s : Source) (r : ℕ) → theory_in f ≡ Some s → in_range 11 13 r ≡ true → P (nullify f.trade r s))
    (priced : (way : Way) (s : Source) (r : ℕ) (p : Mills) → Grounds f way s r p → P (adjust f.trade way s r p)) where
  module _ (way : Way) (opened : way_in f ≡ Some way) (s : Source) (found : theory_in f ≡ Some s) (error : InError f way s) where
    on_act : (a : Act) → act_at f way s ≡ a → fits (act_outcome a) (act_reason a) ≡ true → P (carried_out f.trade way s a)
    on_act (Adjust c) e h = priced way s c.reason c.price (record { opened = opened; found = found; error = error; cause = inr (h, e) })
    on_act (Nullify r) e h = undone s r found (range_wider 11 12 11 13 r tt tt h)
    on_act (Leave r) e h = left s r found (range_wider 4 5 1 5 r tt tt h) (range_high 2 3 r (range_ends 4 5 r h).0)

    on_agreement : (h : Heeded) → heeded_at f way ≡ h → P (settled f way s h)
    unfolding in_range
    on_agreement (Repriced p) e = priced way s 10 p (record { opened = opened; found = found; error = error; cause = inl (refl, e) })
    on_agreement Undone e = undone s 13 found refl
    on_agreement Ignored e = on_act (act_at f way s) refl (act_told way f.request.side f.buyer f.seller (accepted_in_time f.settlement.accepted) s.price (band_of s.price)).0

  on_way : (way : Way) → way_in f ≡ Some way → P (ruled_on f way)
  unfolding ruled_on ruled_at in_range
  on_way way opened = from (theory_in f) refl where
    from : (t : Theory) → theory_in f ≡ t → P (ruled_from f way t)
    from (Some s) e =
        either P (in_error f.request.side f.trade.price s.price (minimum_of way (band_of s.price))) (settled f way s (heeded_at f way)) (no_relief f.trade 1 (Some s))
        (λ h. on_agreement way opened s e h (heeded_at f way) refl)
        (λ h. left s 1 e refl refl)
    from None e = wait e

  by_way : (way : Way) → way_in f ≡ Some way → P (ruled_by f way)
  unfolding ruled_by in_range
  by_way Obvious opened = on_way Obvious opened
  by_way Opening opened = on_way Opening opened
  by_way Catastrophic opened = either P f.request.decided (no_relief f.trade 3 None) (ruled_on f Catastrophic) (λ h. shut 3 refl) (λ h. on_way Catastrophic opened)

  pub each_ruling : P (ruling_of f)
  unfolding ruling_of in_range
  each_ruling = if_open (way_in f) refl where
    if_open : (o : Open) → way_in f ≡ o → P (ruled_if f o)
    if_open (Some way) e = by_way way e
    if_open None e = shut 2 refl
