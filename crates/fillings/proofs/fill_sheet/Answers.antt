use Prim.Native.Nat.{◌-◌}
use mathlib.Core.Path.{sym, ◌∙◌}
use Rattle.sheet.proofs.Turns.{whole_cut}
use Rattle.fillings.proofs.Laws.{refuses, fills, whole_first}
use Rattle.fillings.proofs.Turns.{first, next, last}
use Rattle.fillings.proofs.fill_sheet.Goals as goal

pub returns-then-number-ne0 : goal.returns-then-number-ne0
returns-then-number-ne0 c = refuses _ _ _ c.check_filling-number.ensures c.if-number-ne0.true

pub loop-step-init : goal.loop-step-init
loop-step-init c = first _ _ _ c.length_at-step.ensures

pub loop-step-preserved : goal.loop-step-preserved
loop-step-preserved c = next _ _ _ _ _ _ c.loop-step.invariant c.loop-step-test.true c.fill_case.ensures.1 _ c.sheet-1.given.1 c.length_at-step-in-loop-step.ensures

pub returns : goal.returns
returns c = let good = sym c.check_filling-number.ensures ∙ c.if-number-ne0.false in
    let ended = fills _ _ good in
    (ended.0, last _ _ _ _ _ c.loop-step.invariant c.loop-step-test.false (whole_cut _ (whole_first _ _ good)) ∙ ended.1)
