use borrow.Author.Tests.{le-leb, lt-leb}
use Rattle.earlier.specs.Held.{next_is_late}
use Rattle.earlier.proofs.next_is_late.Goals as goal

pub returns-then-quotes-n : goal.returns-then-quotes-n
unfolding next_is_late
returns-then-quotes-n c = simp (le-leb _ _ c.if-quotes-n.true)

pub returns : goal.returns
unfolding next_is_late
returns c = simp (lt-leb _ _ c.if-quotes-n.false) (cc)
