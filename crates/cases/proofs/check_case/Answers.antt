use mathlib.Core.Path.{sym, ◌∙◌}
use Rattle.cases.proofs.Laws.{head_decides, head_passed}
use Rattle.cases.proofs.check_case.Goals as goal

pub returns-then-head-ne0 : goal.returns-then-head-ne0
returns-then-head-ne0 c = head_decides _ _ c.head_fault-head.ensures c.if-head-ne0.true

pub check_known-requires : goal.check_known-requires
check_known-requires c = head_passed _ (sym c.head_fault-head.ensures ∙ c.if-head-ne0.false)
