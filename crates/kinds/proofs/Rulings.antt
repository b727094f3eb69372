-- Rulings by the width of the quotes: where they can be trusted the ruling is what it was before, and where they can't it is that of the same facts
-- without them. Only the theoretical price looks at the quotes; the steps behind it are the same.
use Prim.Native.Nat.{ℕ}
use mathlib.Core.Path.{◌≡◌, refl, sym, ap, ◌∙◌}
use mathlib.Core.Bool.{true, false}
use borrow.Author.Tests.{eqb-false}
use native.Mathlib.Omega.{arith}
use Rattle.wire.specs.Tests.{pick}
use Rattle.bands.specs.Table.{band_of}
use Rattle.bands.specs.Amounts.{in_error}
use Rattle.parties.specs.Parties.{any_customer}
use Rattle.theory.specs.Theory.{official_source, too_wide, theory_of}
use Rattle.theory.proofs.Prices.{theory_wide, theory_trusted}
use Rattle.agreement.specs.Agreed.{heeded_of}
use Rattle.act.specs.Minimum.{minimum_of}
use Rattle.ruling.specs.Counts.{covered}
use Rattle.ruling.specs.Outcomes.{outcome_number, counts_of}
use Rattle.ruling.specs.Numbers.{way_in, quote_in, theory_in}
use Rattle.ruling.specs.Origins.{origin_of}
use Rattle.ruling.specs.Ruling.{no_relief, settled, ruled_at, ruled_from, ruled_on, ruled_by, ruled_if, ruling_of}
use Rattle.ruling.proofs.Walk.{each_ruling}
use Rattle.ruling.proofs.Origins.{origin_quote}
use Rattle.kinds.specs.Words.{Contracts, Price, Some, None, Side, Buy, Sell, One, Market, Facts, Way, Obvious, Opening, Catastrophic, Open, Theory, Source, Official, Heeded, Ignored, Repriced, Undone, Ruling}
use Rattle.kinds.specs.Before.{theory_before, ruled_on_before, ruled_by_before, ruled_if_before, ruling_before}
use Rattle.kinds.specs.Recast.{recast, as_kind_one, without_quotes}

-- ---- another form and another market: the steps behind the theoretical price are the same
module _ (f : Facts) (m : Market) where
  settled_same : (way : Way) (s : Source) (h : Heeded) → settled (recast f m) way s h ≡ settled f way s h
  settled_same way s (Repriced p) = refl
  settled_same way s Undone = refl
  settled_same way s Ignored = refl

  at_same : (way : Way) (s : Source) → ruled_at (recast f m) way s ≡ ruled_at f way s
  unfolding ruled_at
  at_same way s =
      ap (λ (r : Ruling). pick (in_error f.request.side f.trade.price s.price (minimum_of way (band_of s.price))) r (no_relief f.trade 1 (Some s)))
      (settled_same way s (heeded_of f.settlement way (any_customer f.buyer.kind f.seller.kind)))

  from_same : (way : Way) (t : Theory) → ruled_from (recast f m) way t ≡ ruled_from f way t
  from_same way (Some s) = at_same way s
  from_same way None = refl

  -- so the ruling is the same where the theoretical price is
  module _ (same : theory_in (recast f m) ≡ theory_in f) where
    on_same : (way : Way) → ruled_on (recast f m) way ≡ ruled_on f way
    unfolding ruled_on
    on_same way = ap (ruled_from (recast f m) way) same ∙ from_same way (theory_in f)

    by_same : (way : Way) → ruled_by (recast f m) way ≡ ruled_by f way
    unfolding ruled_by
    by_same Obvious = on_same Obvious
    by_same Opening = on_same Opening
    by_same Catastrophic = ap (pick f.request.decided (no_relief f.trade 3 None)) (on_same Catastrophic)

    if_same : (o : Open) → ruled_if (recast f m) o ≡ ruled_if f o
    if_same (Some way) = by_same way
    if_same None = refl

    recast_same : ruling_of (recast f m) ≡ ruling_of f
    unfolding ruling_of
    recast_same = if_same (way_in f)

-- ---- quotes that can be trusted
module _ (f : Facts) (trusted : too_wide f.form f.market ≡ false) where
  -- are looked at as ever
  pub trusted_theory : theory_in f ≡ theory_before f.request.side f.market
  trusted_theory = theory_trusted f.form f.request.side f.market trusted

  on_before : (way : Way) → ruled_on f way ≡ ruled_on_before f way
  unfolding ruled_on
  on_before way = ap (ruled_from f way) trusted_theory

  by_before : (way : Way) → ruled_by f way ≡ ruled_by_before f way
  unfolding ruled_by
  by_before Obvious = on_before Obvious
  by_before Opening = on_before Opening
  by_before Catastrophic = ap (pick f.request.decided (no_relief f.trade 3 None)) (on_before Catastrophic)

  if_before : (o : Open) → ruled_if f o ≡ ruled_if_before f o
  if_before (Some way) = by_before way
  if_before None = refl

  pub ruling_before_lem : ruling_of f ≡ ruling_before f
  unfolding ruling_of ruling_before
  ruling_before_lem = if_before (way_in f)

  -- and the same facts of kind 1 are ruled alike
  pub narrow_theory : theory_in (as_kind_one f) ≡ theory_in f
  narrow_theory = theory_trusted One f.request.side f.market refl ∙ sym trusted_theory

  pub narrow_same : ruling_of (as_kind_one f) ≡ ruling_of f
  narrow_same = recast_same f f.market narrow_theory

-- ---- quotes that can't
module _ (f : Facts) (wide : too_wide f.form f.market ≡ true) where
  -- have no say
  pub wide_theory : theory_in f ≡ official_source f.market.official
  wide_theory = theory_wide f.form f.request.side f.market wide

  without : (side : Side) → theory_of One side (without_quotes f).market ≡ official_source f.market.official
  unfolding theory_of
  without Buy = refl
  without Sell = refl

  pub bare_theory : theory_in (without_quotes f) ≡ theory_in f
  bare_theory = without f.request.side ∙ sym wide_theory

  pub wide_same : ruling_of (without_quotes f) ≡ ruling_of f
  wide_same = recast_same f (without_quotes f).market bare_theory

  -- no quote is the origin of TP
  pub never_quoted : origin_of (ruling_of f) ≡ 1 → ⊥
  never_quoted e =
      let q = (origin_quote f).0 e in
      let none : quote_in f ≡ None = simp wide in
      let z : ◌≡◌ {A = ℕ} 0 1 = cc (q.2, none) in
      omega arith

  -- an official's price covers every contract, on every way
  by_official : (official : Price) (way : Way) (s : Source) → official_source official ≡ Some s → s.origin ≡ Official
  by_official (Some p) way s e = cc
  by_official None way s e = cc

  all_covered : (way : Way) (n : Contracts) → covered way Official n ≡ n
  all_covered Obvious n = refl
  all_covered Opening n = refl
  all_covered Catastrophic n = refl

  pub wide_covers : outcome_number (ruling_of f).outcome ≡ 1 → (counts_of (ruling_of f).outcome).adjusted ≡ f.trade.contracts
  wide_covers =
      each_ruling f (λ (r : Ruling). outcome_number r.outcome ≡ 1 → (counts_of r.outcome).adjusted ≡ f.trade.contracts)
      (λ r h k. absurd (eqb-false 0 1 refl k))
      (λ e k. absurd (eqb-false 3 1 refl k))
      (λ s r e h n k. absurd (eqb-false 0 1 refl k))
      (λ s r e h k. absurd (eqb-false 2 1 refl k))
      (λ way s r p g k. rw (by_official f.market.official way s (sym wide_theory ∙ g.found)) (all_covered way f.trade.contracts))
