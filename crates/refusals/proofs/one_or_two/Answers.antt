use Rattle.wire.proofs.Tests.{ranges}
use Rattle.refusals.proofs.one_or_two.Goals as goal

pub returns-in-1-to-2 : goal.returns-in-1-to-2
returns-in-1-to-2 c = search ranges

pub returns-in_default : goal.returns-in_default
returns-in_default c = search ranges

pub returns-in_default-2 : goal.returns-in_default-2
returns-in_default-2 c = search ranges
