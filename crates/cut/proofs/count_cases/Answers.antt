use Prim.Native.Nat.{◌-◌}
use Rattle.cut.proofs.Walk.{counted_start, counted_next, counted_end}
use Rattle.cut.proofs.count_cases.Goals as goal

pub loop-step-init : goal.loop-step-init
loop-step-init c = counted_start _ _ c.length_at-step.ensures

pub loop-step-preserved : goal.loop-step-preserved
loop-step-preserved c = counted_next _ _ _ _ _ c.loop-step.invariant c.loop-step-test.true c.length_at-step-in-loop-step.ensures

pub returns : goal.returns
returns c = counted_end _ _ _ _ c.loop-step.invariant c.loop-step-test.false
