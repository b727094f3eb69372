-- The callable function's promise, as Rattle reads it from the contract, allows one result.
use mathlib.Core.Path.{sym, ◌∙◌}
use Rattle.wire.specs.Exact.{Exact}
use Rattle.steps.proofs.find_steps.Reads as find_steps

pub find_steps_exact : Exact (find_steps.Post tt)
find_steps_exact a e e' r r' p q = p ∙ sym q
