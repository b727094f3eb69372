use Rattle.report.proofs.Lines.{put_ruled_line, put_refused_line}
use Rattle.cases.proofs.Laws.{passed_whole}
use mathlib.Core.Path.{sym, ◌∙◌}
use Rattle.report.proofs.put_case.Goals as goal

pub judge-requires : goal.judge-requires
judge-requires c = passed_whole _ (sym c.check_known-number.ensures ∙ c.if-number-eq0.true)

pub returns-then-number-eq0 : goal.returns-then-number-eq0
returns-then-number-eq0 c = put_ruled_line _ _ _ _ _ c.check_known-number.ensures c.if-number-eq0.true _ c.judge.ensures _ c.put_ruled.ensures

pub returns : goal.returns
returns c = put_refused_line _ _ _ _ _ c.check_known-number.ensures c.if-number-eq0.false _ c.put_refused.ensures
