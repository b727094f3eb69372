use Prim.Native.Nat.{◌-◌}
use mathlib.Core.Path.{◌≡◌}
use native.Mathlib.Omega.{arith}
use lib.ListN.{length-take, length-drop}
use Rattle.sheet.proofs.Turns.{first, next, few_more}
use Rattle.cut.proofs.Walk.{at_more, at_is}
use Rattle.report.specs.Report.{case_line}
use Rattle.text.proofs.Placed.{ran_after}
use Rattle.lines.specs.Lines.{header}
use Rattle.lines.proofs.Lengths.{header_most}
use Rattle.report.proofs.Lines.{line_most, bytes_most}
use Rattle.report.proofs.put_lines.Goals as goal

pub loop-i-init : goal.loop-i-init
loop-i-init c = first _ case_line 96 _ _ (omega (arith, header_most))

pub said_length-requires : goal.said_length-requires
said_length-requires c = (omega arith, at_more _ _ _ c.loop-i.invariant.walked (omega arith))

pub slice_bounds-put_case-count-in-loop-i : goal.slice_bounds-put_case-count-in-loop-i
slice_bounds-put_case-count-in-loop-i c = omega (arith, header_most)

pub slice_bounds-put_case-start-in-loop-i : goal.slice_bounds-put_case-start-in-loop-i
slice_bounds-put_case-start-in-loop-i c = omega (arith, header_most)

pub put_case-p-requires : goal.put_case-p-requires
put_case-p-requires c = (at_is _ _ _ _ c.loop-i.invariant.walked (omega (arith, header_most)) c.said_length.ensures.0, simp (length-take, length-drop) (omega (arith, header_most)))

pub overflow_add-at : goal.overflow_add-at
overflow_add-at c = omega (arith, header_most, bytes_most _ _ _ c.put_case-p.ensures.0)

pub overflow_add-ruled : goal.overflow_add-ruled
overflow_add-ruled c = omega (arith, header_most, few_more _ _ c.put_case-p.ensures.1)

pub loop-i-preserved : goal.loop-i-preserved
loop-i-preserved c = next _ case_line 96 line_most _ _ _ _ _ _ _ _ _ _ _ c.loop-i.invariant (omega (arith, c.requires.0)) c.said_length.ensures.0 c.put_case-p.ensures c.out-in-loop-i-1.given.1

pub returns : goal.returns
returns c = let v = c.loop-i.invariant in let done : c.loop-i.i ≡ c.args.n = omega (arith, c.requires.0, v.walked.within) in
    let ran = ran_after header _ _ _ _ _ _ c.put_header-at.ensures (omega (arith, header_most)) v.ran in
    rw (← done) (record { bytes_value = (ran.0, v.counted, ran.1); bytes_bound = (omega (arith, header_most), v.few) })
