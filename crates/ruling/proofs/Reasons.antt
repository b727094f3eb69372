-- Every ruling has the outcome of its reason.
use Prim.Native.Nat.{ℕ}
use mathlib.Core.Path.{◌≡◌, refl, sym, ap}
use mathlib.Core.Bool.{true}
use mathlib.Core.Logic.{⊎_elim}
use native.Mathlib.Omega.{arith}
use Rattle.wire.specs.Tests.{in_range}
use Rattle.wire.proofs.Tests.{range_in, range_high, range_ends, range_wider}
use Rattle.ruling.specs.Words.{Facts, Ruling}
use Rattle.reasons.specs.Reasons.{reason_outcome}
use Rattle.ruling.specs.Outcomes.{outcome_number}
use Rattle.ruling.specs.Ruling.{ruling_of}
use Rattle.ruling.proofs.Walk.{each_ruling}

unrelieved : (r : ℕ) → in_range 1 5 r ≡ true → 0 ≡ reason_outcome r
unfolding reason_outcome
unrelieved r h = simp h

repriced : (r : ℕ) → in_range 6 10 r ≡ true → 1 ≡ reason_outcome r
unfolding reason_outcome
repriced r h = let k = range_ends 6 10 r h in simp (range_high 1 5 r k.0, h)

undone : (r : ℕ) → in_range 11 13 r ≡ true → 2 ≡ reason_outcome r
unfolding reason_outcome
undone r h = let k = range_ends 11 13 r h in simp (range_high 1 5 r (omega arith), range_high 6 10 r k.0, h)

-- the outcome that a ruling has is that of its reason
abbrev pub Agrees : Ruling → Type 0
Agrees r = outcome_number r.outcome ≡ reason_outcome r.reason

pub reasons_agree : (f : Facts) → Agrees (ruling_of f)
unfolding reason_outcome in_range
reasons_agree f =
    each_ruling f Agrees (λ r h. unrelieved r (range_wider 2 3 1 5 r tt tt h)) (λ e. refl) (λ s r e h n. unrelieved r h) (λ s r e h. undone r h)
    (λ way s r p g. ⊎_elim (λ c. ap reason_outcome (sym c.0)) (λ c. let k = range_ends 6 9 r c.0 in repriced r (range_in 6 10 r k.0 (omega arith))) g.cause)
