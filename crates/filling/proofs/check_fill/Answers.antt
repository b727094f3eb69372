use Rattle.filling.proofs.Answers.{tried_none, tried}
use Rattle.record.specs.Record.{facts_of}
use Rattle.cases.proofs.Laws.{passed_whole}
use mathlib.Core.Path.{sym, ◌∙◌}
use Rattle.filling.proofs.check_fill.Goals as goal

pub returns-then-fault-ne0 : goal.returns-then-fault-ne0
returns-then-fault-ne0 c = tried_none _ _ _ c.check_case-fault.ensures c.if-fault-ne0.true

pub trade_of-requires : goal.trade_of-requires
trade_of-requires c = passed_whole _ (sym c.check_case-fault.ensures ∙ c.if-fault-ne0.false)

pub returns : goal.returns
unfolding facts_of
returns c = tried _ _ _ c.check_case-fault.ensures c.if-fault-ne0.false _ c.trade_of.ensures _ c.count_and_find-would.ensures
