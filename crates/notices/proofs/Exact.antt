-- The callable function's promise, as Rattle reads it from the contract, allows one result.
use mathlib.Core.Path.{refl, sym, ◌∙◌}
use contract.Lifetimes.{Lfts}
use Rattle.wire.specs.Exact.{ExactIn}
use Rattle.notices.proofs.put_answer.Reads as put_answer

pub put_answer_exact : (κs : Lfts 1) → ExactIn (λ a. a.0) (put_answer.Post κs)
put_answer_exact κs a e e' r r' p q = (refl, p ∙ sym q)
