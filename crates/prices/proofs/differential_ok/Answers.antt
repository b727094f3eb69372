use Rattle.wire.specs.Tests.{in_range}
use Rattle.prices.proofs.differential_ok.Goals as goal

pub returns-in-Some : goal.returns-in-Some
unfolding in_range
returns-in-Some c = simp c.in-Some.is
