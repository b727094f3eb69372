use borrow.Author.Tests.{eq-eqb, ne_eqb}
use Rattle.best.specs.Places.{met}
use Rattle.best.proofs.meet.Goals as goal

pub returns-then-last-index-ne0 : goal.returns-then-last-index-ne0
unfolding met
returns-then-last-index-ne0 c = simp (ne_eqb _ _ c.if-last-index-ne0.true)

pub returns : goal.returns
unfolding met
returns c = simp (eq-eqb _ _ c.if-last-index-ne0.false)
