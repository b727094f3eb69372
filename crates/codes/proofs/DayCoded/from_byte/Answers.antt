use borrow.Author.Tests.{eq-eqb, ne_eqb}
use Rattle.codes.specs.Codes.{day_of, day_number}
use Rattle.codes.proofs.Codes.{day_number_lem, spelled_if}
use Rattle.codes.proofs.DayCoded.from_byte.Goals as goal

pub returns-in-0 : goal.returns-in-0
unfolding day_of
returns-in-0 c = spelled_if day_number (day_number_lem _) (simp (eq-eqb _ _ c.in-0.is))

pub returns-in-1 : goal.returns-in-1
unfolding day_of
returns-in-1 c = spelled_if day_number (day_number_lem _) (rw c.in-1.is)

pub returns-in_default : goal.returns-in_default
unfolding day_of
returns-in_default c = spelled_if day_number (day_number_lem _) (simp (ne_eqb _ _ c.in_default.in_default-own.rest.0.1, ne_eqb _ _ c.in_default.in_default-own.rest.1))
