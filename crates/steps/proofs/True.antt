-- What the steps say is so: a sum shown is the one tested, and an agreement counts where nothing is said against it.
use Prim.Native.Nat.{ℕ, ◌+◌, ◌*◌, ◌≤◌, min}
use mathlib.Core.Path.{◌≡◌, refl, ap}
use mathlib.Core.Bool.{Bool, true, false, ◌||◌}
use native.Mathlib.Omega.{arith}
use lib.Dec.{leb, eqb}
use Rattle.wire.specs.Tests.{pick}
use Rattle.width.specs.Width.{apart as farApart}
use Rattle.parties.specs.Parties.{by_side}
use Rattle.bands.specs.Table.{band_of}
use Rattle.bands.specs.Amounts.{in_error, moved_by, largest}
use Rattle.agreement.specs.Agreed.{in_time, may_nullify, terms_of, heeded_of}
use Rattle.act.specs.Minimum.{minimum_of}
use Rattle.steps.specs.Words.{Mills, Side, Buy, Sell, Price, Some, None, Agreement, NotMade, OnPrice, ToNullify, Settlement, Way, Heeded, Ignored, Repriced, Undone}
use Rattle.steps.specs.Found.{gap_of, error_of, ignored_why, is_made, is_on_price}

-- an execution is in error where the higher price is at least the sum that is shown
pub sum_tested : (side : Side) (execution tp : Mills) (way : Way)
    → (by_side side tp execution).0 + (minimum_of way (band_of tp)).0 ≤ largest
    → (error_of side execution tp way).wrong ≡ leb (error_of side execution tp way).reach.0 (error_of side execution tp way).high.0
unfolding error_of in_error moved_by
sum_tested Buy execution tp way h =
    let e : tp.0 + (minimum_of way (band_of tp)).0 ≡ min (tp.0 + (minimum_of way (band_of tp)).0) largest = omega arith in ap (λ (k : ℕ). leb k execution.0) e
sum_tested Sell execution tp way h =
    let e : execution.0 + (minimum_of way (band_of tp)).0 ≡ min (execution.0 + (minimum_of way (band_of tp)).0) largest = omega arith in
    ap (λ (k : ℕ). leb k tp.0) e

-- quotes are too wide where the offer is at least the sum that is shown
pub gap_tested : (differential bid offer : Mills) → bid.0 + 2 * differential.0 ≤ largest
    → (gap_of differential bid offer).wide ≡ leb (gap_of differential bid offer).reach.0 (gap_of differential bid offer).offer.0
unfolding gap_of farApart
gap_tested differential bid offer h =
    let e : bid.0 + 2 * differential.0 ≡ min (bid.0 + 2 * differential.0) largest = omega arith in ap (λ (k : ℕ). leb k offer.0) e

-- an agreement counts where no cause is given against it; a price agreed on is there (refusal 9)
abbrev pub counts : Heeded → Bool
counts Ignored = false
counts (Repriced p) = true
counts Undone = true

abbrev pub There : Agreement → Price → Type 0
There NotMade p = Unit {0}
There OnPrice None = ⊥
There OnPrice (Some p) = Unit {0}
There ToNullify p = Unit {0}

by_terms : (t n : Bool) (a : Agreement) (p : Price) → There a p
    → eqb (pick (is_made a) (pick t (pick (is_on_price a || n) 0 3) 2) 1) 0 ≡ counts (pick t (terms_of a p n) Ignored)
by_terms true n NotMade p h = refl
by_terms false n NotMade p h = refl
by_terms true n OnPrice (Some p) h = refl
by_terms true n OnPrice None h = absurd h
by_terms false n OnPrice p h = refl
by_terms true true ToNullify p h = refl
by_terms true false ToNullify p h = refl
by_terms false n ToNullify p h = refl

pub ignored_why_lem : (s : Settlement) (way : Way) (customer : Bool) → There s.agreement s.agreed
    → eqb (ignored_why s way customer) 0 ≡ counts (heeded_of s way customer)
unfolding ignored_why heeded_of
ignored_why_lem s way customer h = by_terms (in_time s.made customer) (may_nullify way customer) s.agreement s.agreed h
