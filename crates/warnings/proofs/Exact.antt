-- Each callable function's promise, as Rattle reads it from the contract, allows one result.
use mathlib.Core.Path.{sym, ◌∙◌}
use contract.Lifetimes.{Lfts}
use Rattle.wire.specs.Exact.{ExactIn}
use Rattle.warnings.proofs.warn_piece.Reads as warn_piece

pub warn_piece_exact : (κs : Lfts 2) → ExactIn (λ a. a.1.1.0) (warn_piece.Post κs)
warn_piece_exact κs a e e' r r' p q = (p.0.0 ∙ sym q.0.0, p.0.1 ∙ sym q.0.1)
