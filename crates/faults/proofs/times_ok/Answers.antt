use mathlib.Core.Path.{ap, ap₂}
use mathlib.Core.Bool.{◌&&◌}
use lib.Dec.{leb}
use Rattle.refusals.specs.Tests.{times_ok}
use Rattle.faults.proofs.times_ok.Goals as goal

pub returns : goal.returns
unfolding times_ok
returns c = let a = c.args in let told = leb a.t.executed.0 86399 && leb a.r.filed.0 86399 && leb a.s.made.0 86400 in
    ap₂ ◌&&◌ (ap (◌&&◌ told) c.moment_ok.ensures) c.filed_ok.ensures
