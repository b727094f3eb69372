-- Each callable function's promise, as Rattle reads it from the contract, allows one result.
use mathlib.Core.Path.{sym, ◌∙◌}
use contract.Lifetimes.{Lfts}
use Rattle.wire.specs.Exact.{Exact}
use Rattle.best.proofs.last_before.Reads as last_before
use Rattle.best.proofs.find_best.Reads as find_best
use Rattle.best.proofs.count_and_find.Reads as count_and_find

pub last_before_exact : (κs : Lfts 1) → Exact (last_before.Post κs)
last_before_exact κs a e e' r r' p q = p ∙ sym q

pub find_best_exact : (κs : Lfts 1) → Exact (find_best.Post κs)
find_best_exact κs a e e' r r' p q = p ∙ sym q

pub count_and_find_exact : (κs : Lfts 1) → Exact (count_and_find.Post κs)
count_and_find_exact κs a e e' r r' p q = p ∙ sym q
