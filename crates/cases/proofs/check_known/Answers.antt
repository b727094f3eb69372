use mathlib.Core.Path.{sym, ◌∙◌}
use Rattle.cases.proofs.Laws.{case_whole, coded_decides, codes_decide, later_decide}
use Rattle.cases.proofs.check_known.Goals as goal

pub coded_ok-requires : goal.coded_ok-requires
coded_ok-requires c = case_whole _ c.requires

pub returns-then-not-coded_ok : goal.returns-then-not-coded_ok
returns-then-not-coded_ok c = coded_decides _ c.requires (sym c.coded_ok.ensures ∙ c.if-not-coded_ok.true)

pub codes_at-requires : goal.codes_at-requires
codes_at-requires c = case_whole _ c.requires

pub returns-then-not-codes_at : goal.returns-then-not-codes_at
returns-then-not-codes_at c = codes_decide _ c.requires (sym c.coded_ok.ensures ∙ c.if-not-coded_ok.false) (sym c.codes_at.ensures ∙ c.if-not-codes_at.true)

pub facts_of-requires : goal.facts_of-requires
facts_of-requires c = case_whole _ c.requires

pub returns : goal.returns
returns c = later_decide _ c.requires (sym c.coded_ok.ensures ∙ c.if-not-coded_ok.false) _ _ (sym c.codes_at.ensures ∙ c.if-not-codes_at.false)
    c.facts_of.ensures
    c.later_fault.ensures
