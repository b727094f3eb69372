-- Each callable function's promise, as Rattle reads it from the contract, allows one result.
use mathlib.Core.Path.{sym, ◌∙◌}
use contract.Lifetimes.{Lfts}
use Rattle.wire.specs.Exact.{Exact, ExactIn}
use Rattle.explanation.proofs.explain_case.Reads as explain_case
use Rattle.explanation.proofs.explain_piece.Reads as explain_piece
use Rattle.explanation.proofs.count_pieces.Reads as count_pieces

pub explain_case_exact : (κs : Lfts 2) → ExactIn (λ a. a.1.0) (explain_case.Post κs)
explain_case_exact κs a e e' r r' p q = (p.0.0 ∙ sym q.0.0, p.0.1 ∙ sym q.0.1)

pub explain_piece_exact : (κs : Lfts 2) → ExactIn (λ a. a.1.1.1.0) (explain_piece.Post κs)
explain_piece_exact κs a e e' r r' p q = (p.0.0 ∙ sym q.0.0, p.0.1 ∙ sym q.0.1)

pub count_pieces_exact : (κs : Lfts 1) → Exact (count_pieces.Post κs)
count_pieces_exact κs a e e' r r' p q = p.0 ∙ sym q.0
