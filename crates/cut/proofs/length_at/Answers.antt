use Rattle.cut.proofs.Walk.{length_there}
use Rattle.cut.proofs.length_at.Goals as goal

pub returns : goal.returns
returns c = length_there _ _ _ c.requires c.case_length.ensures
