use mathlib.Core.Path.{refl}
use Rattle.width.specs.Width.{apart}
use Rattle.width.proofs.apart.Goals as goal

pub returns : goal.returns
unfolding apart
returns c = refl
