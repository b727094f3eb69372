use borrow.Author.Tests.{eq-eqb, ne_eqb}
use Rattle.codes.specs.Codes.{kind_of, kind_number}
use Rattle.codes.proofs.Codes.{kind_number_lem, spelled_if}
use Rattle.codes.proofs.KindCoded.from_byte.Goals as goal

pub returns-in-1 : goal.returns-in-1
unfolding kind_of
returns-in-1 c = spelled_if kind_number (kind_number_lem _) (simp (eq-eqb _ _ c.in-1.is))

pub returns-in-2 : goal.returns-in-2
unfolding kind_of
returns-in-2 c = spelled_if kind_number (kind_number_lem _) (rw c.in-2.is)

pub returns-in_default : goal.returns-in_default
unfolding kind_of
returns-in_default c = spelled_if kind_number (kind_number_lem _) (simp (ne_eqb _ _ c.in_default.in_default-own.rest.0.1, ne_eqb _ _ c.in_default.in_default-own.rest.1))
