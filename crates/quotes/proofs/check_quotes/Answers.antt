use Rattle.quotes.proofs.Records.{not_whole, list_refused, time_tells}
use mathlib.Core.Path.{sym, ◌∙◌}
use Rattle.quotes.proofs.check_quotes.Goals as goal

pub returns-then-not-whole_quotes : goal.returns-then-not-whole_quotes
returns-then-not-whole_quotes c = not_whole _ _ (sym c.whole_quotes.ensures ∙ c.if-not-whole_quotes.true)

pub returns-then-number-ne0 : goal.returns-then-number-ne0
returns-then-number-ne0 c = list_refused _ _ (sym c.whole_quotes.ensures ∙ c.if-not-whole_quotes.false) _ c.list_fault-number.ensures c.if-number-ne0.true

pub returns : goal.returns
returns c = time_tells _ _ (sym c.whole_quotes.ensures ∙ c.if-not-whole_quotes.false) _ c.list_fault-number.ensures c.if-number-ne0.false _ c.unless.ensures
