use mathlib.Core.Path.{ap₂}
use mathlib.Core.Bool.{◌&&◌}
use Rattle.refusals.specs.Tests.{quotes_priced}
use Rattle.prices.proofs.quotes_priced.Goals as goal

pub returns : goal.returns
unfolding quotes_priced
returns c = ap₂ ◌&&◌ (ap₂ ◌&&◌ c.price_ok.ensures c.price_ok-2.ensures) c.price_ok-3.ensures
