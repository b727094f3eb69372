-- The price that a limit is tested against goes by the theoretical price, as the ruling does.
use mathlib.Core.Path.{◌≡◌, refl, ap, ◌∙◌}
use mathlib.Core.Bool.{true, false}
use Rattle.wire.specs.Tests.{pick}
use Rattle.bands.specs.Table.{band_of}
use Rattle.bands.specs.Amounts.{in_error}
use Rattle.parties.specs.Parties.{any_customer}
use Rattle.theory.specs.Theory.{too_wide}
use Rattle.agreement.specs.Agreed.{heeded_of}
use Rattle.act.specs.Minimum.{minimum_of}
use Rattle.ruling.specs.Numbers.{way_in, theory_in}
use Rattle.alike.specs.Tested.{tested_under, tested_from, tested_on, tested_by, tested_if, tested_in}
use Rattle.kinds.specs.Words.{Price, None, Side, Market, Facts, Way, Obvious, Opening, Catastrophic, Open, Some, Theory, Source, Heeded, Ignored, Repriced, Undone}
use Rattle.kinds.specs.Recast.{recast, as_kind_one, without_quotes}
use Rattle.kinds.proofs.Rulings.{narrow_theory, bare_theory}

module _ (f : Facts) (m : Market) (who : Side) where
  under_same : (way : Way) (s : Source) (h : Heeded) → tested_under (recast f m) way s who h ≡ tested_under f way s who h
  under_same way s (Repriced p) = refl
  under_same way s Undone = refl
  under_same way s Ignored = refl

  from_same : (way : Way) (t : Theory) → tested_from (recast f m) way who t ≡ tested_from f way who t
  from_same way (Some s) =
      ap (λ (p : Price). pick (in_error f.request.side f.trade.price s.price (minimum_of way (band_of s.price))) p None)
      (under_same way s (heeded_of f.settlement way (any_customer f.buyer.kind f.seller.kind)))
  from_same way None = refl

  module _ (same : theory_in (recast f m) ≡ theory_in f) where
    on_same : (way : Way) → tested_on (recast f m) who way ≡ tested_on f who way
    on_same way = ap (tested_from (recast f m) way who) same ∙ from_same way (theory_in f)

    by_same : (way : Way) → tested_by (recast f m) who way ≡ tested_by f who way
    by_same Obvious = on_same Obvious
    by_same Opening = on_same Opening
    by_same Catastrophic = ap (pick f.request.decided None) (on_same Catastrophic)

    if_same : (o : Open) → tested_if (recast f m) who o ≡ tested_if f who o
    if_same (Some way) = by_same way
    if_same None = refl

    recast_tested : tested_in (recast f m) who ≡ tested_in f who
    unfolding tested_in
    recast_tested = if_same (way_in f)

pub narrow_tested : (f : Facts) (who : Side) → too_wide f.form f.market ≡ false → tested_in (as_kind_one f) who ≡ tested_in f who
narrow_tested f who trusted = recast_tested f f.market who (narrow_theory f trusted)

pub wide_tested : (f : Facts) (who : Side) → too_wide f.form f.market ≡ true → tested_in (without_quotes f) who ≡ tested_in f who
wide_tested f who wide = recast_tested f (without_quotes f).market who (bare_theory f wide)
