-- Each callable function's promise, as Rattle reads it from the contract, allows one result.
use mathlib.Core.Path.{sym, ◌∙◌}
use contract.Lifetimes.{Lfts}
use Rattle.wire.specs.Exact.{Exact}
use Rattle.careful.proofs.find_cautions.Reads as find_cautions
use Rattle.careful.proofs.any_caution.Reads as any_caution

pub find_cautions_exact : (κs : Lfts 1) → Exact (find_cautions.Post κs)
find_cautions_exact κs a e e' r r' p q = p ∙ sym q

pub any_caution_exact : Exact (any_caution.Post tt)
any_caution_exact a e e' r r' p q = p ∙ sym q
