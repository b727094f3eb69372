-- Each callable function's promise, as Rattle reads it from the contract, allows one result.
use mathlib.Core.Path.{sym, ◌∙◌}
use Rattle.wire.specs.Exact.{Exact}
use Rattle.facts.proofs.price_of.Reads as price_of
use Rattle.facts.proofs.price_number.Reads as price_number
use Rattle.facts.proofs.moment_of.Reads as moment_of
use Rattle.facts.proofs.moment_number.Reads as moment_number
use Rattle.facts.proofs.violates.Reads as violates

pub price_of_exact : Exact (price_of.Post tt)
price_of_exact a e e' r r' p q = p.0 ∙ sym q.0

pub moment_of_exact : Exact (moment_of.Post tt)
moment_of_exact a e e' r r' p q = p.0 ∙ sym q.0

pub price_number_exact : Exact (price_number.Post tt)
price_number_exact a e e' r r' p q = p ∙ sym q

pub moment_number_exact : Exact (moment_number.Post tt)
moment_number_exact a e e' r r' p q = p ∙ sym q

pub violates_exact : Exact (violates.Post tt)
violates_exact a e e' r r' p q = p ∙ sym q
