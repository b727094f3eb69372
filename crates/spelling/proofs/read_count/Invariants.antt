use Prim.Native.Nat.{◌≤◌}
use mathlib.Core.Path.{◌≡◌}
use lib.ListN.{drop}
use Rattle.spelling.proofs.Digits.{count_from}
use Rattle.spelling.proofs.read_count.Given as goal

abbrev pub invariant-loop-b : goal.invariant-loop-b
invariant-loop-b l = (l.n ≤ 4294967295) × (count_from l.n (drop l.b-index l.w) ≡ count_from 0 l.w)
