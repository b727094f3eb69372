use Prim.Native.Nat.{◌-◌}
use native.Mathlib.Omega.{arith}
use Rattle.cut.proofs.Walk.{counted_start, counted_next, goes_on, stops, counted_place}
use Rattle.cut.proofs.start_of.Goals as goal

pub loop-i-init : goal.loop-i-init
loop-i-init c = (counted_start _ _ c.length_at-step.ensures, omega arith)

pub loop-i-preserved : goal.loop-i-preserved
loop-i-preserved c = let t = goes_on c.loop-i.i c.args.k c.loop-i.step c.loop-i-test.true in
    let v = c.loop-i.invariant in (counted_next _ _ _ _ _ v.0 t.1 c.length_at-step-in-loop-i.ensures, omega (arith, t.0))

pub returns : goal.returns
returns c = let v = c.loop-i.invariant in counted_place _ _ _ _ _ v.0 v.1 (stops _ _ _ c.loop-i-test.false)
