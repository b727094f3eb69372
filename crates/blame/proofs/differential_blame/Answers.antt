use Rattle.forms.specs.Forms.{form_of}
use borrow.Author.Tests.{lt-ltb, le-ltb}
use Rattle.blame.proofs.differential_blame.Goals as goal

pub returns-then-s-lt92 : goal.returns-then-s-lt92
unfolding form_of
returns-then-s-lt92 c = simp (lt-ltb _ _ c.if-s-lt92.true)

pub returns : goal.returns
unfolding form_of
returns c = simp (le-ltb _ _ c.if-s-lt92.false, c.first_bad.ensures, c.money_at.ensures, c.within.ensures)
