-- Each callable function's promise, as Rattle reads it from the contract, allows one result.
use mathlib.Core.Path.{sym, ◌∙◌}
use contract.Lifetimes.{Lfts}
use Rattle.wire.specs.Exact.{Exact, ExactIn}
use Rattle.spelling.proofs.read_time.Reads as read_time
use Rattle.spelling.proofs.add_time.Reads as add_time
use Rattle.spelling.proofs.add_dollars.Reads as add_dollars

pub read_time_exact : (κs : Lfts 1) → Exact (read_time.Post κs)
read_time_exact κs a e e' r r' p q = p ∙ sym q

pub add_time_exact : (κs : Lfts 1) → ExactIn (λ a. a.0) (add_time.Post κs)
add_time_exact κs a e e' r r' p q = (p.0 ∙ sym q.0, p.1 ∙ sym q.1)

pub add_dollars_exact : (κs : Lfts 1) → ExactIn (λ a. a.0) (add_dollars.Post κs)
add_dollars_exact κs a e e' r r' p q = (p.0 ∙ sym q.0, p.1 ∙ sym q.1)
