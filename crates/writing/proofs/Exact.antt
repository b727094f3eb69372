-- The callable function's promise, as Rattle reads it from the contract, allows one result.
use mathlib.Core.Path.{refl, sym, ◌∙◌}
use contract.Lifetimes.{Lfts}
use Rattle.wire.specs.Exact.{ExactIn}
use Rattle.writing.proofs.put_facts.Reads as put_facts

pub put_facts_exact : (κs : Lfts 1) → ExactIn (λ a. a.0) (put_facts.Post κs)
put_facts_exact κs a e e' r r' p q = (refl, p ∙ sym q)
