-- Each callable function's promise, as Rattle reads it from the contract, allows one result.
use mathlib.Core.Path.{sym, ◌∙◌}
use contract.Lifetimes.{Lfts}
use Rattle.wire.specs.Exact.{Exact}
use Rattle.earlier.proofs.count_before.Reads as count_before
use Rattle.earlier.proofs.quotes_before.Reads as quotes_before
use Rattle.earlier.proofs.number_ok.Reads as number_ok

pub count_before_exact : (κs : Lfts 1) → Exact (count_before.Post κs)
count_before_exact κs a e e' r r' p q = p ∙ sym q

pub quotes_before_exact : (κs : Lfts 1) → Exact (quotes_before.Post κs)
quotes_before_exact κs a e e' r r' p q = p ∙ sym q

pub number_ok_exact : (κs : Lfts 1) → Exact (number_ok.Post κs)
number_ok_exact κs a e e' r r' p q = p ∙ sym q
