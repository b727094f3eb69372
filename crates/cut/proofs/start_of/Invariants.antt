use Prim.Native.Nat.{◌-◌, ◌≤◌}
use Rattle.cut.proofs.Walk.{Counted}
use Rattle.cut.proofs.start_of.Given as goal

abbrev pub invariant-loop-i : goal.invariant-loop-i
invariant-loop-i l = Counted l.sheet l.i l.at l.step × (l.i ≤ l.k)

abbrev pub decreases-loop-i : goal.decreases-loop-i
decreases-loop-i l = l.k - l.i
