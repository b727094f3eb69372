use mathlib.Core.Path.{sym, ◌∙◌}
use Rattle.refusals.specs.Tests.{codes_ok}
use Rattle.faults.proofs.codes_ok.Goals as goal

pub returns-then-not-code_ok : goal.returns-then-not-code_ok
unfolding codes_ok
returns-then-not-code_ok c = simp (sym c.code_ok.ensures ∙ c.if-not-code_ok.true)

pub returns : goal.returns
unfolding codes_ok
returns c = simp (sym c.code_ok.ensures ∙ c.if-not-code_ok.false) c.code_ok-2.ensures
