use Rattle.quotes.specs.Quotes.{posted_at}
use Rattle.quotes.proofs.posted_at.Goals as goal

pub returns : goal.returns
unfolding posted_at
returns c = cc
