-- Each callable function's promise, as Rattle reads it from the contract, allows one result.
use mathlib.Core.Path.{sym, ◌∙◌}
use contract.Lifetimes.{Lfts}
use Rattle.wire.specs.Exact.{ExactIn}
use Rattle.best_lines.proofs.add_head.Reads as add_head
use Rattle.best_lines.proofs.add_sayer.Reads as add_sayer

pub add_head_exact : (κs : Lfts 1) → ExactIn (λ a. a.0) (add_head.Post κs)
add_head_exact κs a e e' r r' p q = (p.0 ∙ sym q.0, p.1 ∙ sym q.1)

pub add_sayer_exact : (κs : Lfts 1) → ExactIn (λ a. a.0) (add_sayer.Post κs)
add_sayer_exact κs a e e' r r' p q = (p.0 ∙ sym q.0, p.1 ∙ sym q.1)
