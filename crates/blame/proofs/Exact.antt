-- The callable function's promise, as Rattle reads it from the contract, allows one result.
use mathlib.Core.Path.{sym, ◌∙◌}
use contract.Lifetimes.{Lfts}
use Rattle.wire.specs.Exact.{Exact}
use Rattle.blame.proofs.find_blame.Reads as find_blame

pub find_blame_exact : (κs : Lfts 1) → Exact (find_blame.Post κs)
find_blame_exact κs a e e' r r' p q = p ∙ sym q
