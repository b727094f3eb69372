use Rattle.wire.proofs.Tests.{ranges}
use Rattle.refusals.proofs.one_to_three.Goals as goal

pub returns-in-1-to-3 : goal.returns-in-1-to-3
returns-in-1-to-3 c = search ranges

pub returns-in_default : goal.returns-in_default
returns-in_default c = search ranges

pub returns-in_default-2 : goal.returns-in_default-2
returns-in_default-2 c = search ranges
