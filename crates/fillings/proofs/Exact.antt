-- Each callable function's promise, as Rattle reads it from the contract, allows one result.
use mathlib.Core.Path.{sym, ◌∙◌}
use contract.Lifetimes.{Lfts}
use Rattle.wire.specs.Exact.{Exact, ExactIn}
use Rattle.fillings.proofs.check_filling.Reads as check_filling
use Rattle.fillings.proofs.fill_sheet.Reads as fill_sheet

pub check_filling_exact : (κs : Lfts 2) → Exact (check_filling.Post κs)
check_filling_exact κs a e e' r r' p q = p ∙ sym q

pub fill_sheet_exact : (κs : Lfts 2) → ExactIn (λ a. a.1.0) (fill_sheet.Post κs)
fill_sheet_exact κs a e e' r r' p q = (p.0 ∙ sym q.0, p.1 ∙ sym q.1)
