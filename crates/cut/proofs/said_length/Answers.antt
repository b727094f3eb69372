use Rattle.cut.proofs.Walk.{head_within, said_there}
use Rattle.cut.proofs.said_length.Goals as goal

pub read_u16-requires : goal.read_u16-requires
read_u16-requires c = head_within _ _ c.requires.1

pub returns : goal.returns
returns c = said_there _ _ _ c.requires.0 c.requires.1 c.read_u16.ensures
