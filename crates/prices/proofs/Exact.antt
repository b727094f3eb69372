-- The callable functions' promises, as Rattle reads them from the contracts, each allow one result.
use mathlib.Core.Path.{sym, ◌∙◌}
use Rattle.wire.specs.Exact.{Exact}
use Rattle.prices.proofs.prices_ok.Reads as prices_ok
use Rattle.prices.proofs.counts_ok.Reads as counts_ok

pub prices_ok_exact : Exact (prices_ok.Post tt)
prices_ok_exact a e e' r r' p q = p ∙ sym q

pub counts_ok_exact : Exact (counts_ok.Post tt)
counts_ok_exact a e e' r r' p q = p ∙ sym q
