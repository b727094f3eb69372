use Rattle.earlier.proofs.Number.{before_none, before_count}
use Rattle.quotes.proofs.Accepted.{all_rising}
use mathlib.Core.Path.{sym, ◌∙◌}
use Rattle.earlier.proofs.quotes_before.Goals as goal

pub returns-then-check_quotes-ne0 : goal.returns-then-check_quotes-ne0
returns-then-check_quotes-ne0 c = before_none _ _ _ c.check_quotes.ensures c.if-check_quotes-ne0.true

pub count_before-requires : goal.count_before-requires
count_before-requires c = all_rising _ _ (sym c.check_quotes.ensures ∙ c.if-check_quotes-ne0.false)

pub returns : goal.returns
returns c = c.count_before.ensures ∙ before_count _ _ (sym c.check_quotes.ensures ∙ c.if-check_quotes-ne0.false)
