use mathlib.Core.Path.{refl, ap, ap₂}
use mathlib.Core.Bool.{not, ◌&&◌}
use Rattle.way.specs.Way.{opening_open}
use Rattle.way.proofs.opening_open.Goals as goal

pub returns : goal.returns
unfolding opening_open
returns c = let dated = ap₂ ◌&&◌ c.is_trade_date.ensures refl in
    let asked = ap₂ ◌&&◌ dated c.is_customer.ensures in
    ap₂ ◌&&◌ (ap₂ ◌&&◌ asked (ap not c.within.ensures)) c.no_later.ensures
