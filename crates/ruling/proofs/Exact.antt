-- The callable function's promise, as Rattle reads it from the contract, allows one result.
use mathlib.Core.Path.{sym, ◌∙◌}
use contract.Lifetimes.{Lfts}
use Rattle.wire.specs.Exact.{Exact}
use Rattle.ruling.proofs.rule.Reads as rule

pub rule_exact : (κs : Lfts 1) → Exact (rule.Post κs)
rule_exact κs a e e' r r' p q = p.0 ∙ sym q.0
