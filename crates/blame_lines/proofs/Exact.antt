-- Each callable function's promise, as Rattle reads it from the contract, allows one result.
use mathlib.Core.Path.{sym, ◌∙◌}
use contract.Lifetimes.{Lfts}
use Rattle.wire.specs.Exact.{ExactIn}
use Rattle.blame_lines.proofs.add_blame.Reads as add_blame

pub add_blame_exact : (κs : Lfts 2) → ExactIn (λ a. a.0) (add_blame.Post κs)
add_blame_exact κs a e e' r r' p q = (p.0 ∙ sym q.0, p.1 ∙ sym q.1)
