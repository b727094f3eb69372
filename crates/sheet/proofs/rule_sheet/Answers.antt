use Prim.Native.Nat.{◌-◌, zero-le}
use mathlib.Core.Path.{◌≡◌, sym, ap, ◌∙◌}
use mathlib.Core.List.{[]}
use native.Mathlib.Omega.{arith}
use lib.ListN.{length, length-take, length-drop}
use Rattle.cut.proofs.Walk.{at_more, at_is}
use Rattle.wire.proofs.Tests.{fails, holds}
use Rattle.wire.proofs.Laid.{laid_none, ends}
use Rattle.cut.specs.Cut.{cases_in}
use Rattle.sheet.specs.Words.{SheetAnswer}
use Rattle.sheet.specs.Sheet.{entry_bytes}
use Rattle.sheet.proofs.Entries.{entry_most}
use Rattle.sheet.proofs.Turns.{first, next, sheet_refused, sheet_room, whole_few, sheet_ruled, bytes_most, few_more}
use Rattle.sheet.proofs.rule_sheet.Goals as goal

pub returns-then-not-c : goal.returns-then-not-c
returns-then-not-c c = let w = c.whole_cases-c.ensures.0 in ends _ _ _ (sheet_refused _ _ (sym w ∙ fails _ c.if-not-c.true) ∙ ap (λ (a : SheetAnswer). (a, [])) (sym c.refuse.ensures)) (laid_none _)

pub overflow_mul-n : goal.overflow_mul-n
overflow_mul-n c = let k = c.whole_cases-c.ensures in omega (arith, k.1, whole_few _ (sym k.0 ∙ holds _ c.if-not-c.false))

pub returns-then-out-n : goal.returns-then-out-n
returns-then-out-n c = let k = c.whole_cases-c.ensures in ends _ _ _ (sheet_room _ _ (sym k.0 ∙ holds _ c.if-not-c.false) (omega (arith, k.1)) ∙ ap (λ (a : SheetAnswer). (a, [])) (sym c.refuse-then-out-n.ensures)) (laid_none _)

pub loop-i-init : goal.loop-i-init
loop-i-init c = first 0 entry_bytes 96 _ _ zero-le

pub said_length-requires : goal.said_length-requires
said_length-requires c = (omega arith, at_more _ _ _ c.loop-i.invariant.walked (omega arith))

pub overflow_cast-i : goal.overflow_cast-i
overflow_cast-i c = let k = c.whole_cases-c.ensures in omega (arith, k.1, whole_few _ (sym k.0 ∙ holds _ c.if-not-c.false))

pub rule_entry-e-requires : goal.rule_entry-e-requires
rule_entry-e-requires c = (at_is _ _ _ _ c.loop-i.invariant.walked (omega arith) c.said_length.ensures.0, simp (length-take, length-drop) (omega arith))

pub overflow_add-at : goal.overflow_add-at
overflow_add-at c = omega (arith, bytes_most _ _ _ c.rule_entry-e.ensures.0)

pub overflow_add-ruled : goal.overflow_add-ruled
overflow_add-ruled c = omega (arith, few_more _ _ c.rule_entry-e.ensures.1)

pub loop-i-preserved : goal.loop-i-preserved
loop-i-preserved c = next 0 entry_bytes 96 entry_most _ _ _ _ _ _ _ _ _ _ _ c.loop-i.invariant (omega arith) c.said_length.ensures.0 c.rule_entry-e.ensures c.out-1.given.1

pub returns : goal.returns
returns c = let k = c.whole_cases-c.ensures in let v = c.loop-i.invariant in let a = c.args in let done : c.loop-i.i ≡ cases_in a.sheet.now = omega (arith, k.1, v.walked.within) in
    let e = sheet_ruled a.sheet.now (length a.out.now) (sym k.0 ∙ holds _ c.if-not-c.false) (omega (arith, k.1)) in
    ends _ _ _ (e ∙ rw (← done) (cc)) v.ran.1
