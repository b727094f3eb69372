use Rattle.best.proofs.Turns.{Turn}
use Prim.Native.Nat.{◌-◌}
use Rattle.best.proofs.walk_back.Given as goal

abbrev pub invariant-loop-i : goal.invariant-loop-i
invariant-loop-i l = Turn l.quotes l.n l.w l.i

abbrev pub decreases-loop-i : goal.decreases-loop-i
decreases-loop-i l = l.i
