use mathlib.Core.Path.{sym, ◌∙◌}
use Rattle.faults.proofs.Row.{codes_stop, codes_pass}
use Rattle.faults.proofs.fault.Goals as goal

pub returns-then-not-codes_ok : goal.returns-then-not-codes_ok
returns-then-not-codes_ok c = codes_stop _ (sym c.codes_ok.ensures ∙ c.if-not-codes_ok.true)

pub returns : goal.returns
returns c = codes_pass _ _ (sym c.codes_ok.ensures ∙ c.if-not-codes_ok.false) c.later_fault.ensures
