-- Each callable function's promise, as Rattle reads it from the contract, allows one result.
use mathlib.Core.Path.{sym, ◌∙◌}
use Rattle.wire.specs.Exact.{Exact}
use Rattle.halves.proofs.half_of.Reads as half_of_lem
use Rattle.halves.proofs.better.Reads as better
use Rattle.halves.proofs.size_if.Reads as size_if
use Rattle.halves.proofs.capped.Reads as capped

pub half_of_exact : Exact (half_of_lem.Post tt)
half_of_exact a e e' r r' p q = p ∙ sym q

pub better_exact : Exact (better.Post tt)
better_exact a e e' r r' p q = p ∙ sym q

pub size_if_exact : Exact (size_if.Post tt)
size_if_exact a e e' r r' p q = p ∙ sym q

pub capped_exact : Exact (capped.Post tt)
capped_exact a e e' r r' p q = p ∙ sym q
