-- Each callable function's promise, as Rattle reads it from the contract, allows one result.
use mathlib.Core.Path.{sym, ◌∙◌}
use contract.Lifetimes.{Lfts}
use Rattle.wire.specs.Exact.{Exact, ExactIn}
use Rattle.cases.proofs.check_known.Reads as check_known
use Rattle.cases.proofs.check_case.Reads as check_case
use Rattle.cases.proofs.read_case.Reads as read_case
use Rattle.cases.proofs.write_case.Reads as write_case

pub check_known_exact : (κs : Lfts 1) → Exact (check_known.Post κs)
check_known_exact κs a e e' r r' p q = p ∙ sym q

pub check_case_exact : (κs : Lfts 1) → Exact (check_case.Post κs)
check_case_exact κs a e e' r r' p q = p ∙ sym q

pub read_case_exact : (κs : Lfts 1) → Exact (read_case.Post κs)
read_case_exact κs a e e' r r' p q = p.0 ∙ sym q.0

pub write_case_exact : (κs : Lfts 1) → ExactIn (λ a. a.1.0) (write_case.Post κs)
write_case_exact κs a e e' r r' p q = (p.0 ∙ sym q.0, p.1 ∙ sym q.1)
