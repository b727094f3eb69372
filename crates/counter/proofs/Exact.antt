-- The callable function's promise, as Rattle reads it from the contract, allows one result.
use mathlib.Core.Path.{sym, ◌∙◌}
use contract.Lifetimes.{Lfts}
use Rattle.wire.specs.Exact.{ExactIn}
use Rattle.counter.proofs.desk_explain_case.Reads as explain_case

pub desk_explain_case_exact : (κs : Lfts 2) → ExactIn (λ a. a.1.0) (explain_case.Post κs)
desk_explain_case_exact κs a e e' r r' p q = (p.0 ∙ sym q.0, p.1 ∙ sym q.1)
