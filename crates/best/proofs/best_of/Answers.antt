use Rattle.best.specs.Best.{best_of}
use Rattle.best.proofs.best_of.Goals as goal

pub returns : goal.returns
unfolding best_of
returns c = cc
