use Rattle.lines.specs.Lines.{header}
use Rattle.text.proofs.Placed.{ran_first}
use Rattle.lines.proofs.put_header.Goals as goal

pub returns : goal.returns
unfolding header
returns c = let w = c.add_word.ensures in ran_first _ _ _ _ w.0 w.1
