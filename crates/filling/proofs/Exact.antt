-- Each callable function's promise, as Rattle reads it from the contract, allows one result.
use mathlib.Core.Path.{sym, ◌∙◌}
use contract.Lifetimes.{Lfts}
use Rattle.wire.specs.Exact.{Exact, ExactIn}
use Rattle.filling.proofs.check_fill.Reads as check_fill
use Rattle.filling.proofs.fill_case.Reads as fill_case

pub check_fill_exact : (κs : Lfts 2) → Exact (check_fill.Post κs)
check_fill_exact κs a e e' r r' p q = p ∙ sym q

pub fill_case_exact : (κs : Lfts 2) → ExactIn (λ a. a.1.0) (fill_case.Post κs)
fill_case_exact κs a e e' r r' p q = (p.0 ∙ sym q.0, p.1 ∙ sym q.1)
