-- Each callable function's promise, as Rattle reads it from the contract, allows one result.
use mathlib.Core.Path.{sym, ◌∙◌}
use contract.Lifetimes.{Lfts}
use Rattle.wire.specs.Exact.{Exact, ExactIn}
use Rattle.cut.proofs.Exact.{same_count}
use Rattle.sheet.proofs.whole_cases.Reads as whole_cases
use Rattle.sheet.proofs.rule_sheet.Reads as rule_sheet

pub whole_cases_exact : (κs : Lfts 1) → Exact (whole_cases.Post κs)
whole_cases_exact κs a e e' r r' p q = same_count r r' (p.0 ∙ sym q.0) (p.1 ∙ sym q.1)

pub rule_sheet_exact : (κs : Lfts 2) → ExactIn (λ a. a.1.0) (rule_sheet.Post κs)
rule_sheet_exact κs a e e' r r' p q = (p.0 ∙ sym q.0, p.1 ∙ sym q.1)
