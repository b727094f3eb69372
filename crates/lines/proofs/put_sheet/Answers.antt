use Rattle.lines.proofs.Joined.{two_fields}
use Rattle.lines.specs.Lines.{sheet_line}
use Rattle.text.proofs.Placed.{ran_first, ran_next}
use Rattle.lines.proofs.put_sheet.Goals as goal

pub returns : goal.returns
unfolding sheet_line
returns c = let r1 = ran_first _ _ _ _ c.add_word-words.ensures.0 c.add_word-words.ensures.1 in
    rw (← two_fields _ _) (ran_next _ _ _ _ _ _ _ r1 c.add_number.ensures.0 c.add_number.ensures.1)
