use borrow.Author.Tests.{eq-eqb, ne_eqb}
use Rattle.halves.specs.Halves.{size_if}
use Rattle.halves.proofs.size_if.Goals as goal

pub returns-in-Some-Some : goal.returns-in-Some-Some
unfolding size_if
returns-in-Some-Some c = simp (c.in-Some-Some.is-0, c.in-Some-Some.is-1, eq-eqb _ _ c.if-a-b.true)

pub returns-in_default : goal.returns-in_default
unfolding size_if
returns-in_default c = simp (c.in-Some-Some.is-0, c.in-Some-Some.is-1, ne_eqb _ _ c.if-a-b.false)

pub returns-in_default-2 : goal.returns-in_default-2
unfolding size_if
returns-in_default-2 c = simp (c.in_default.is-0, c.in_default.is-1)

pub returns-in_default-3 : goal.returns-in_default-3
unfolding size_if
returns-in_default-3 c = simp c.in_default.is-0
