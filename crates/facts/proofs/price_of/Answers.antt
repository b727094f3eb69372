use borrow.Author.Tests.{eq-eqb, ne_eqb}
use Rattle.facts.specs.Numbers.{price_of, price_number}
use Rattle.facts.proofs.Numbers.{price_number_lem, spelled}
use Rattle.facts.proofs.price_of.Goals as goal

pub returns-in-4294967295 : goal.returns-in-4294967295
unfolding price_of
returns-in-4294967295 c = spelled price_number (price_number_lem _) (simp (eq-eqb _ _ c.in-4294967295.is))

pub returns-in_default : goal.returns-in_default
unfolding price_of
returns-in_default c = spelled price_number (price_number_lem _) (simp (ne_eqb _ _ c.in_default.in_default-own.rest.1))
