-- The callable function's promise, as Rattle reads it from the contract, allows one result.
use mathlib.Core.Path.{sym, ◌∙◌}
use contract.Lifetimes.{Lfts}
use Rattle.wire.specs.Exact.{ExactIn}
use Rattle.phrases.proofs.add_refusal.Reads as add_refusal

pub add_refusal_exact : (κs : Lfts 1) → ExactIn (λ a. a.0) (add_refusal.Post κs)
add_refusal_exact κs a e e' r r' p q = (p.0 ∙ sym q.0, p.1 ∙ sym q.1)
