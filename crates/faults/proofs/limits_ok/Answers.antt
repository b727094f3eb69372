use mathlib.Core.Path.{ap, ap₂}
use mathlib.Core.Bool.{not, ◌&&◌}
use Rattle.refusals.specs.Tests.{limits_ok}
use Rattle.faults.proofs.limits_ok.Goals as goal

pub returns : goal.returns
unfolding limits_ok
returns c = ap₂ ◌&&◌ (ap not c.violates.ensures) (ap not c.violates-2.ensures)
