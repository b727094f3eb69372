-- Each callable function's promise, as Rattle reads it from the contract, allows one result.
use mathlib.Core.Path.{sym, ◌∙◌}
use contract.Lifetimes.{Lfts}
use Rattle.wire.specs.Exact.{Exact}
use Rattle.refusals.proofs.head_fault.Reads as head_fault
use Rattle.refusals.proofs.coded_ok.Reads as coded_ok
use Rattle.refusals.proofs.unless.Reads as unless

pub head_fault_exact : (κs : Lfts 1) → Exact (head_fault.Post κs)
head_fault_exact κs a e e' r r' p q = p ∙ sym q

pub coded_ok_exact : (κs : Lfts 1) → Exact (coded_ok.Post κs)
coded_ok_exact κs a e e' r r' p q = p ∙ sym q

pub unless_exact : Exact (unless.Post tt)
unless_exact a e e' r r' p q = p ∙ sym q
