-- Each callable function's promise, as Rattle reads it from the contract, allows one result.
use mathlib.Core.Path.{refl, sym, ◌∙◌}
use contract.Lifetimes.{Lfts}
use Rattle.wire.specs.Exact.{ExactIn}
use Rattle.answer.proofs.answer_case.Reads as answer_case
use Rattle.answer.proofs.rule_case.Reads as rule_case

pub answer_case_exact : (κs : Lfts 2) → ExactIn (λ a. a.0) (answer_case.Post κs)
answer_case_exact κs a e e' r r' p q = (refl, p ∙ sym q)

pub rule_case_exact : (κs : Lfts 2) → ExactIn (λ a. a.1.0) (rule_case.Post κs)
rule_case_exact κs a e e' r r' p q = (p.0 ∙ sym q.0, p.1 ∙ sym q.1)
