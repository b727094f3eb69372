use mathlib.Core.Path.{ap}
use mathlib.Core.Bool.{Bool, ◌&&◌}
use lib.ListN.{length}
use lib.Dec.{leb}
use Rattle.sheet.specs.Sheet.{whole_cases}
use Rattle.sheet.proofs.whole_cases.Goals as goal

pub returns : goal.returns
unfolding whole_cases
returns c = let e = c.count_cases-c.ensures in (ap (λ (b : Bool). b && leb (length c.args.sheet.now) 52800) e.0, e.1)
