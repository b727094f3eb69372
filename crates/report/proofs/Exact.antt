-- Each callable function's promise, as Rattle reads it from the contract, allows one result.
use mathlib.Core.Path.{sym, ◌∙◌}
use contract.Lifetimes.{Lfts}
use Rattle.wire.specs.Exact.{ExactIn}
use Rattle.report.proofs.print_sheet.Reads as print_sheet
use Rattle.report.proofs.print_piece.Reads as print_piece

pub print_sheet_exact : (κs : Lfts 2) → ExactIn (λ a. a.1.0) (print_sheet.Post κs)
print_sheet_exact κs a e e' r r' p q = (p.0.0 ∙ sym q.0.0, p.0.1 ∙ sym q.0.1)

pub print_piece_exact : (κs : Lfts 2) → ExactIn (λ a. a.1.1.0) (print_piece.Post κs)
print_piece_exact κs a e e' r r' p q = (p.0.0 ∙ sym q.0.0, p.0.1 ∙ sym q.0.1)
