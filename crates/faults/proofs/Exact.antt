-- Each callable function's promise, as Rattle reads it from the contract, allows one result.
use mathlib.Core.Path.{sym, ◌∙◌}
use contract.Lifetimes.{Lfts}
use Rattle.wire.specs.Exact.{Exact}
use Rattle.faults.proofs.codes_at.Reads as codes_at
use Rattle.faults.proofs.later_fault.Reads as later_fault
use Rattle.faults.proofs.fault.Reads as fault

pub codes_at_exact : (κs : Lfts 1) → Exact (codes_at.Post κs)
codes_at_exact κs a e e' r r' p q = p ∙ sym q

pub later_fault_exact : Exact (later_fault.Post tt)
later_fault_exact a e e' r r' p q = p ∙ sym q

pub fault_exact : Exact (fault.Post tt)
fault_exact a e e' r r' p q = p ∙ sym q
