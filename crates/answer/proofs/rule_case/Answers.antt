use mathlib.Core.Path.{sym, ◌∙◌}
use Rattle.wire.proofs.Laid.{laid_none, ends}
use Rattle.cases.proofs.Laws.{passed_whole}
use Rattle.answer.proofs.Cases.{case_length_lem, case_room, case_refused, case_ruled}
use Rattle.answer.proofs.rule_case.Goals as goal

pub returns-then-not-is_length : goal.returns-then-not-is_length
returns-then-not-is_length c = ends _ _ _ (case_length_lem _ _ (sym c.is_length.ensures ∙ c.if-not-is_length.true)) (laid_none _)

pub returns-then-out-lt96 : goal.returns-then-out-lt96
returns-then-out-lt96 c = ends _ _ _ (case_room _ _ (sym c.is_length.ensures ∙ c.if-not-is_length.false) c.if-out-lt96.true) (laid_none _)

pub returns-then-n-ne0 : goal.returns-then-n-ne0
returns-then-n-ne0 c = ends _ _ _ (case_refused _ _ (sym c.is_length.ensures ∙ c.if-not-is_length.false) c.if-out-lt96.false _ c.check_case-n.ensures c.if-n-ne0.true) (laid_none _)

pub answer_case-requires : goal.answer_case-requires
answer_case-requires c = (c.if-out-lt96.false, passed_whole _ (sym c.check_case-n.ensures ∙ c.if-n-ne0.false))

pub returns : goal.returns
returns c = ends _ _ _ (case_ruled _ _ (sym c.is_length.ensures ∙ c.if-not-is_length.false) c.if-out-lt96.false _ c.check_case-n.ensures c.if-n-ne0.false) c.answer_case.ensures
