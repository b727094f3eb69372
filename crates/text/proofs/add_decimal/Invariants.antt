use Prim.Native.Nat.{◌+◌, ◌≤◌}
use mathlib.Core.Path.{◌≡◌}
use lib.ListN.{length}
use Rattle.text.specs.Text.{laid_at, decimal_of}
use Rattle.text.proofs.add_decimal.Given as goal

abbrev pub invariant-loop-rest : goal.invariant-loop-rest
invariant-loop-rest l = (laid_at l.at (decimal_of l.rest) l.out ≡ laid_at l.at (decimal_of l.n) l.initial.out) × (l.place ≡ l.at + length (decimal_of l.rest)) × (l.rest ≤ l.n) × (length l.out ≡ length l.initial.out)

abbrev pub decreases-loop-rest : goal.decreases-loop-rest
decreases-loop-rest l = l.rest
