-- Each callable function's promise, as Rattle reads it from the contract, allows one result.
use mathlib.Core.Path.{sym, ◌∙◌}
use Rattle.wire.specs.Exact.{Exact}
use Rattle.bands.proofs.band_of.Reads as band_of
use Rattle.bands.proofs.obvious_adjustment.Reads as obvious_adjustment
use Rattle.bands.proofs.in_error.Reads as in_error
use Rattle.bands.proofs.moved.Reads as moved

pub band_of_exact : Exact (band_of.Post tt)
band_of_exact a e e' r r' p q = p ∙ sym q

pub obvious_adjustment_exact : Exact (obvious_adjustment.Post tt)
obvious_adjustment_exact a e e' r r' p q = p ∙ sym q

pub in_error_exact : Exact (in_error.Post tt)
in_error_exact a e e' r r' p q = p ∙ sym q

pub moved_exact : Exact (moved.Post tt)
moved_exact a e e' r r' p q = p ∙ sym q
