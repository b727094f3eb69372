-- Each callable function's promise, as Rattle reads it from the contract, allows one result.
use mathlib.Core.Path.{sym, ◌∙◌}
use Rattle.wire.specs.Exact.{Exact}
use Rattle.act.proofs.minimum_of.Reads as minimum_of
use Rattle.act.proofs.opening_tested.Reads as opening_tested
use Rattle.act.proofs.find_act.Reads as find_act

pub minimum_of_exact : Exact (minimum_of.Post tt)
minimum_of_exact a e e' r r' p q = p ∙ sym q

pub opening_tested_exact : Exact (opening_tested.Post tt)
opening_tested_exact a e e' r r' p q = p ∙ sym q

pub find_act_exact : Exact (find_act.Post tt)
find_act_exact a e e' r r' p q = p.0 ∙ sym q.0
