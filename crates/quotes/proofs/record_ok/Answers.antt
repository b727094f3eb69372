use Rattle.quotes.proofs.Sides.{no_quote_lem, fields_tell}
use mathlib.Core.Path.{sym, ◌∙◌}
use Rattle.quotes.proofs.record_ok.Goals as goal

pub returns-then-not-is_quote : goal.returns-then-not-is_quote
returns-then-not-is_quote c = no_quote_lem _ _ (sym c.is_quote.ensures ∙ c.if-not-is_quote.true)

pub returns : goal.returns
returns c = fields_tell _ _ (sym c.is_quote.ensures ∙ c.if-not-is_quote.false) _ c.fields_ok.ensures
