use mathlib.Core.Path.{ap₂}
use mathlib.Core.Bool.{◌||◌}
use Rattle.act.specs.Limits.{catastrophic_stopped}
use Rattle.act.proofs.catastrophic_stopped.Goals as goal

pub returns : goal.returns
unfolding catastrophic_stopped
returns c = ap₂ ◌||◌ c.customer_stopped.ensures c.customer_stopped-2.ensures
