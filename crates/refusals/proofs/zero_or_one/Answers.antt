use Rattle.wire.proofs.Tests.{ranges}
use Rattle.refusals.proofs.zero_or_one.Goals as goal

pub returns-in-0-to-1 : goal.returns-in-0-to-1
returns-in-0-to-1 c = search ranges

pub returns-in_default : goal.returns-in_default
returns-in_default c = search ranges
