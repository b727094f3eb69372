-- The callable function's promise, as Rattle reads it from the contract, allows one result.
use mathlib.Core.Path.{sym, ◌∙◌}
use contract.Lifetimes.{Lfts}
use Rattle.wire.specs.Exact.{Exact}
use Rattle.figures.proofs.judge.Reads as judge

pub judge_exact : (κs : Lfts 1) → Exact (judge.Post κs)
judge_exact κs a e e' r r' p q = p ∙ sym q
