use Prim.Native.Nat.{◌-◌}
use mathlib.Core.Path.{◌≡◌}
use native.Mathlib.Omega.{arith}
use Rattle.fill_report.proofs.Turns.{first, next}
use Rattle.fill_report.proofs.put_cases.Goals as goal

pub loop-i-init : goal.loop-i-init
loop-i-init c = first _ _ _

pub loop-i-preserved : goal.loop-i-preserved
loop-i-preserved c = next _ _ _ _ _ _ _ _ _ _ _ _ _ _ c.loop-i.invariant (omega arith) c.length_at-step.ensures.0 c.put_case-p.ensures.bytes_value c.put_case-p.ensures.read_value c.put_case-p.ensures.bytes_bound c.out-1.given.1

pub returns : goal.returns
returns c =
    let v = c.loop-i.invariant in
    let done : c.loop-i.i ≡ c.args.n = omega (arith, c.requires.0, v.walked.within) in
    rw (← done) (record { bytes_value = (v.ran.0, v.counted, v.ran.1); read_value = v.summed; bytes_bound = (v.most, v.few, v.least) })
