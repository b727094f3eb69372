use mathlib.Core.Path.{sym, ◌∙◌}
use Rattle.careful.proofs.Found.{whole, of_case, of_none, of_five}
use Rattle.careful.proofs.find_cautions.Goals as goal

pub cautions_in-requires : goal.cautions_in-requires
cautions_in-requires c = whole _ (sym c.head_fault.ensures ∙ c.if-head_fault-eq0.true)

pub returns-then-head_fault-eq0 : goal.returns-then-head_fault-eq0
returns-then-head_fault-eq0 c = of_case _ c.cautions_in.ensures (sym c.head_fault.ensures ∙ c.if-head_fault-eq0.true)

pub returns : goal.returns
returns c = of_none _ (of_five _ c.default.ensures) (λ e. c.if-head_fault-eq0.false (c.head_fault.ensures ∙ e))
