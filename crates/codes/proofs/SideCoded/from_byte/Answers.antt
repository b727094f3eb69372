use borrow.Author.Tests.{eq-eqb, ne_eqb}
use Rattle.codes.specs.Codes.{side_of, side_number}
use Rattle.codes.proofs.Codes.{side_number_lem, spelled_if}
use Rattle.codes.proofs.SideCoded.from_byte.Goals as goal

pub returns-in-1 : goal.returns-in-1
unfolding side_of
returns-in-1 c = spelled_if side_number (side_number_lem _) (simp (eq-eqb _ _ c.in-1.is))

pub returns-in_default : goal.returns-in_default
unfolding side_of
returns-in_default c = spelled_if side_number (side_number_lem _) (simp (ne_eqb _ _ c.in_default.in_default-own.rest.1))
