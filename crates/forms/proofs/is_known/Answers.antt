use borrow.Author.Tests.{ne_eqb}
use mathlib.Core.Bool.{or-false}
use Rattle.forms.specs.Heads.{pairs, known}
use Rattle.forms.proofs.is_known.Goals as goal

pub returns-in-88 : goal.returns-in-88
unfolding known pairs
returns-in-88 c = rw c.in-88.is (simp or-false)

pub returns-in-92 : goal.returns-in-92
unfolding known pairs
returns-in-92 c = rw c.in-92.is (simp or-false)

pub returns-in_default : goal.returns-in_default
unfolding known pairs
returns-in_default c = simp (ne_eqb _ _ c.in_default.in_default-own.rest.0.1, ne_eqb _ _ c.in_default.in_default-own.rest.1)
