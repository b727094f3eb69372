use mathlib.Core.Path.{◌≡◌}
use Rattle.bands.specs.Words.{Buy, Sell}
use Rattle.bands.specs.Amounts.{in_error}
use Rattle.bands.proofs.in_error.Goals as goal

pub returns-in-Buy : goal.returns-in-Buy
unfolding in_error
returns-in-Buy c = let s : c.args.side ≡ Buy = cc in simp s

pub returns-in-Sell : goal.returns-in-Sell
unfolding in_error
returns-in-Sell c = let s : c.args.side ≡ Sell = cc in simp s
