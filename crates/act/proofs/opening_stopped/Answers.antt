use mathlib.Core.Path.{◌≡◌}
use mathlib.Core.Bool.{Bool}
use Rattle.facts.specs.Limits.{violates}
use Rattle.parties.specs.Parties.{by_side}
use Rattle.act.specs.Words.{Mills, Price, Side, Party}
use Rattle.act.specs.Limits.{opening_tested, opening_stopped}
use Rattle.act.proofs.opening_stopped.Goals as goal

stopped : (side : Side) (buyer seller : Party) (tp : Mills) {tested : Side} {limit : Price} {r : Bool}
    → tested ≡ opening_tested side buyer.kind seller.kind
    → limit ≡ by_side tested buyer.limit seller.limit
    → r ≡ violates tested limit tp
    → r ≡ opening_stopped side buyer seller tp
unfolding opening_stopped
stopped side buyer seller tp tested limit violated = cc

pub returns : goal.returns
returns c = let a = c.args in stopped a.side a.buyer a.seller a.tp
    c.opening_tested-tested.ensures c.by_side.ensures c.violates.ensures
