use Rattle.wire.proofs.Tests.{ranges}
use Rattle.notices.specs.Records.{shows}
use Rattle.notices.proofs.shows.Goals as goal

pub returns-in-1-to-2 : goal.returns-in-1-to-2
unfolding shows
returns-in-1-to-2 c = search ranges

pub returns-in_default : goal.returns-in_default
unfolding shows
returns-in_default c = search ranges

pub returns-in_default-2 : goal.returns-in_default-2
unfolding shows
returns-in_default-2 c = search ranges
