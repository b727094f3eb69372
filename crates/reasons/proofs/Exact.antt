-- The callable function's promise, as Rattle reads it from the contract, allows one result.
use mathlib.Core.Path.{sym, ◌∙◌}
use Rattle.wire.specs.Exact.{Exact}
use Rattle.reasons.proofs.outcome_of.Reads as outcome_of

pub outcome_of_exact : Exact (outcome_of.Post tt)
outcome_of_exact a e e' r r' p q = p ∙ sym q
