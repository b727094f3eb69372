use Rattle.earlier.proofs.Number.{too_many, by_two}
use mathlib.Core.Bool.{◌&&◌}
use mathlib.Core.Path.{ap₂, ◌∙◌}
use Rattle.earlier.proofs.number_ok.Goals as goal

pub returns-then-quotes-before : goal.returns-then-quotes-before
returns-then-quotes-before c = too_many _ _ c.requires _ c.if-quotes-before.true

pub returns : goal.returns
returns c = ap₂ ◌&&◌ c.ends_before.ensures c.next_is_late.ensures ∙ by_two _ _ c.requires _ c.if-quotes-before.false
