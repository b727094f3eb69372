-- The callable function's promise, as Rattle reads it from the contract, allows one result.
use mathlib.Core.Path.{sym, ◌∙◌}
use Rattle.wire.specs.Exact.{Exact}
use Rattle.width.proofs.is_wide.Reads as is_Is_wide

pub is_wide_exact : Exact (is_Is_wide.Post tt)
is_wide_exact a e e' r r' p q = p ∙ sym q
