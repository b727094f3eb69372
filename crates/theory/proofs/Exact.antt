-- Each callable function's promise, as Rattle reads it from the contract, allows one result.
use mathlib.Core.Path.{sym, ◌∙◌}
use Rattle.wire.specs.Exact.{Exact}
use Rattle.theory.proofs.find_theory.Reads as find_theory
use Rattle.theory.proofs.tp_number.Reads as tp_number
use Rattle.theory.proofs.origin_number.Reads as origin_number

pub find_theory_exact : Exact (find_theory.Post tt)
find_theory_exact a e e' r r' p q = p.0 ∙ sym q.0

pub tp_number_exact : Exact (tp_number.Post tt)
tp_number_exact a e e' r r' p q = p ∙ sym q

pub origin_number_exact : Exact (origin_number.Post tt)
origin_number_exact a e e' r r' p q = p ∙ sym q
