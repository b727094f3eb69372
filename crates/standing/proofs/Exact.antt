-- The callable function's promise, as Rattle reads it from the contract, allows one result.
use mathlib.Core.Path.{sym, ◌∙◌}
use contract.Lifetimes.{Lfts}
use Rattle.wire.specs.Exact.{ExactIn}
use Rattle.standing.proofs.print_best.Reads as print_best

pub print_best_exact : (κs : Lfts 3) → ExactIn (λ a. a.1.1.0) (print_best.Post κs)
print_best_exact κs a e e' r r' p q = (p.0.0 ∙ sym q.0.0, p.0.1 ∙ sym q.0.1)
