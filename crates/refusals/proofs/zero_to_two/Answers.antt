use Rattle.wire.proofs.Tests.{ranges}
use Rattle.refusals.proofs.zero_to_two.Goals as goal

pub returns-in-0-to-2 : goal.returns-in-0-to-2
returns-in-0-to-2 c = search ranges

pub returns-in_default : goal.returns-in_default
returns-in_default c = search ranges
