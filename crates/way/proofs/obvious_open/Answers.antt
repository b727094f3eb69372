use mathlib.Core.Path.{ap, ap₂, ◌∙◌}
use mathlib.Core.Bool.{◌&&◌}
use Rattle.way.specs.Words.{Seconds}
use Rattle.way.specs.Times.{within}
use Rattle.way.specs.Way.{obvious_open}
use Rattle.way.proofs.obvious_open.Goals as goal

pub returns : goal.returns
unfolding obvious_open
returns c = let a = c.args in ap₂ ◌&&◌ c.is_trade_date.ensures
    (c.within.ensures ∙ ap (λ (t : Seconds). within t a.executed a.filed) c.obvious_time.ensures)
