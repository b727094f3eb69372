use Prim.Native.Nat.{◌-◌}
use lib.ListN.{length}
use Rattle.cut.proofs.Walk.{Counted}
use Rattle.cut.proofs.count_cases.Given as goal

abbrev pub invariant-loop-step : goal.invariant-loop-step
invariant-loop-step l = Counted l.sheet l.n l.from l.step

abbrev pub decreases-loop-step : goal.decreases-loop-step
decreases-loop-step l = length l.sheet - l.from
