use mathlib.Core.Bool.{or-false}
use Rattle.forms.specs.Heads.{pairs, is_length}
use Rattle.forms.proofs.is_length.Goals as goal

pub returns : goal.returns
unfolding is_length pairs
returns c = simp or-false
