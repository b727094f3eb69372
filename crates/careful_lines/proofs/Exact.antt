-- Each callable function's promise, as Rattle reads it from the contract, allows one result.
use mathlib.Core.Path.{sym, ◌∙◌}
use contract.Lifetimes.{Lfts}
use Rattle.wire.specs.Exact.{ExactIn}
use Rattle.careful_lines.proofs.add_cautions.Reads as add_cautions

pub add_cautions_exact : (κs : Lfts 1) → ExactIn (λ a. a.0) (add_cautions.Post κs)
add_cautions_exact κs a e e' r r' p q = (p.0 ∙ sym q.0, p.1 ∙ sym q.1)
