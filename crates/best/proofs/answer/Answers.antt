use Rattle.best.proofs.Answers.{answered}
use Rattle.best.proofs.answer.Goals as goal

pub returns : goal.returns
returns c = answered _ _ _ _ _ _ c.walk_back-back.ensures c.best_of.ensures c.best_of-2.ensures
