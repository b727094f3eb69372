use mathlib.Core.Path.{sym, ◌∙◌}
use Rattle.wire.proofs.Tests.{fails, holds}
use Rattle.fillings.proofs.Laws.{sheet_fails, quotes_decide}
use Rattle.fillings.proofs.check_filling.Goals as goal

pub returns-then-not-c : goal.returns-then-not-c
returns-then-not-c c = sheet_fails _ _ (sym c.whole_cases-c.ensures.0 ∙ fails _ c.if-not-c.true)

pub returns : goal.returns
returns c = quotes_decide _ _ _ (sym c.whole_cases-c.ensures.0 ∙ holds _ c.if-not-c.false) c.check_quotes.ensures
