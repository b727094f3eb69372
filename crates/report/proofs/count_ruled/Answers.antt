use Prim.Native.Nat.{◌-◌, ◌<◌}
use mathlib.Core.Path.{◌≡◌, refl}
use native.Mathlib.Numerals.{add-one}
use native.Mathlib.Omega.{arith}
use Rattle.cases.specs.Cases.{reading_of}
use Rattle.cut.proofs.Walk.{at_start, at_lent, at_is, at_step}
use Rattle.sheet.specs.Sheet.{case_at, cases_in, ruled_one, ruled_in}
use Rattle.sheet.proofs.Turns.{few_more}
use Rattle.sheet.proofs.Counts.{ruled_within}
use Rattle.report.proofs.count_ruled.Goals as goal

pub loop-i-init : goal.loop-i-init
unfolding ruled_in
loop-i-init c = (at_start _, refl)

pub ruled_one-ruled-requires : goal.ruled_one-ruled-requires
ruled_one-ruled-requires c = at_is _ _ _ _ c.loop-i.invariant.0 (omega (arith, c.requires)) c.length_at-step.ensures.0

pub overflow_add-ruled : goal.overflow_add-ruled
overflow_add-ruled c = omega (arith, ruled_within c.args.sheet.now c.loop-i._i, few_more _ _ c.ruled_one-ruled.ensures)

pub loop-i-preserved : goal.loop-i-preserved
unfolding ruled_in
loop-i-preserved c = let s = c.args.sheet.now in let v = c.loop-i.invariant in let more : c.loop-i._i < cases_in s = omega (arith, c.requires) in
    let long = c.length_at-step.ensures.0 in let one : c.ruled_one-ruled.result ≡ ruled_one (reading_of (case_at s c.loop-i._i)) = rw (at_lent s c.loop-i._i c.loop-i.at c.length_at-step.result v.0 more long) at c.ruled_one-ruled.ensures in
    (at_step s c.loop-i._i c.loop-i.at c.length_at-step.result v.0 more long, rw add-one (cc))

pub returns : goal.returns
returns c = let v = c.loop-i.invariant in let s = c.args.sheet.now in let done : c.loop-i._i ≡ c.args.n = omega (arith, c.requires, v.0.within) in
    rw (← done) (v.1, omega (arith, ruled_within s c.loop-i._i))
