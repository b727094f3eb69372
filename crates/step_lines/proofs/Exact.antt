-- Each callable function's promise, as Rattle reads it from the contract, allows one result.
use mathlib.Core.Path.{sym, ◌∙◌}
use contract.Lifetimes.{Lfts}
use Rattle.wire.specs.Exact.{ExactIn}
use Rattle.step_lines.proofs.add_steps.Reads as add_steps

pub add_steps_exact : (κs : Lfts 1) → ExactIn (λ a. a.0) (add_steps.Post κs)
add_steps_exact κs a e e' r r' p q = (p.0 ∙ sym q.0, p.1 ∙ sym q.1)
