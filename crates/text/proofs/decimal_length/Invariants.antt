use Prim.Native.Nat.{◌+◌, ◌≤◌}
use mathlib.Core.Path.{◌≡◌}
use lib.ListN.{length}
use Rattle.text.specs.Text.{decimal_of}
use Rattle.text.proofs.decimal_length.Given as goal

abbrev pub invariant-loop-n : goal.invariant-loop-n
invariant-loop-n l = (l.digits + length (decimal_of l.n) ≡ length (decimal_of l.initial.n) + 1) × (l.n ≤ l.initial.n)

abbrev pub decreases-loop-n : goal.decreases-loop-n
decreases-loop-n l = l.n
