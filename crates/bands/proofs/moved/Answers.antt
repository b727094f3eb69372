use mathlib.Core.Path.{ap}
use Rattle.bands.specs.Words.{mills}
use Rattle.bands.specs.Amounts.{moved_by}
use Rattle.bands.proofs.moved.Goals as goal

pub returns-in-Buy : goal.returns-in-Buy
unfolding moved_by
returns-in-Buy c = rw c.in-Buy.is (ap mills c.saturating_add.ensures)

pub returns-in-Sell : goal.returns-in-Sell
unfolding moved_by
returns-in-Sell c = rw c.in-Sell.is (ap mills c.saturating_sub.ensures)
