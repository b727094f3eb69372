-- Each callable function's promise, as Rattle reads it from the contract, allows one result.
use denote.RattleType.{RattleType}
use denote.Param.Laws.{Laws, IsCopy}
use mir.Syntax.{Dict}
use contract.Lifetimes.{Lfts}
use Rattle.std.specs.declared.clone.Clone.{Ghosts}
use mathlib.Core.Path.{sym, ◌∙◌}
use Rattle.wire.specs.Exact.{Exact}
use Rattle.parties.proofs.is_customer.Reads as is_customer
use Rattle.parties.proofs.is_maker.Reads as is_maker
use Rattle.parties.proofs.by_side.Reads as by_side
use Rattle.parties.proofs.any_customer.Reads as any_customer

pub is_customer_exact : Exact (is_customer.Post tt)
is_customer_exact a e e' r r' p q = p ∙ sym q

pub is_maker_exact : Exact (is_maker.Post tt)
is_maker_exact a e e' r r' p q = p ∙ sym q

pub by_side_exact : (T : RattleType) (laws : Laws T) (copied : IsCopy T) (cloned : Ghosts T.Denot) (dict : Dict) (κs : Lfts 1) → Exact (by_side.Post T laws copied cloned dict κs)
by_side_exact T laws copied cloned dict κs a e e' r r' p q = p ∙ sym q

pub any_customer_exact : Exact (any_customer.Post tt)
any_customer_exact a e e' r r' p q = p ∙ sym q
