use mathlib.Core.Path.{ap₂}
use mathlib.Core.Bool.{◌&&◌}
use Rattle.refusals.specs.Tests.{lists_ok}
use Rattle.refusals.proofs.lists_ok.Goals as goal

pub returns : goal.returns
unfolding lists_ok
returns c = let flags = ap₂ ◌&&◌ (ap₂ ◌&&◌ (ap₂ ◌&&◌ c.one_or_two.ensures c.zero_or_one.ensures) c.zero_or_one-2.ensures) c.zero_or_one-3.ensures in
    let kinds = ap₂ ◌&&◌ (ap₂ ◌&&◌ flags c.one_to_three.ensures) c.one_to_three-2.ensures in
    ap₂ ◌&&◌ (ap₂ ◌&&◌ kinds c.zero_to_two.ensures) c.zero_to_two-2.ensures
