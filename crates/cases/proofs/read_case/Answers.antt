use mathlib.Core.Path.{sym, ap, ◌∙◌}
use Rattle.cases.specs.Cases.{accepted}
use Rattle.cases.proofs.Laws.{refused_at, accepted_at_lem, passed_whole}
use Rattle.cases.proofs.read_case.Goals as goal

pub returns-then-n-ne0 : goal.returns-then-n-ne0
returns-then-n-ne0 c = (c.refuse.ensures ∙ sym (refused_at _ _ (sym c.check_case-n.ensures) c.if-n-ne0.true), λ i. (c.type_inv.s i).fits)

pub facts_of-requires : goal.facts_of-requires
facts_of-requires c = passed_whole _ (sym c.check_case-n.ensures ∙ c.if-n-ne0.false)

pub returns : goal.returns
returns c = (ap accepted c.facts_of.ensures ∙ sym (accepted_at_lem _ (sym c.check_case-n.ensures ∙ c.if-n-ne0.false)), λ i. (c.type_inv.s i).fits)
