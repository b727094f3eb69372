use mathlib.Core.List.{◌++◌}
use Rattle.text.specs.Text.{letters, decimal_of}
use Rattle.lines.proofs.Joined.{three_fields, as_line}
use Rattle.lines.specs.Lines.{refused_line}
use Rattle.text.proofs.Placed.{ran_first, ran_next}
use Rattle.lines.proofs.put_refused.Goals as goal

pub returns : goal.returns
unfolding refused_line
returns c = let a = c.args in let r1 = ran_first _ _ _ _ c.add_byte-mark.ensures.0 c.add_byte-mark.ensures.1 in
    let r2 = ran_next _ _ _ _ _ _ _ r1 c.add_number-place.ensures.0 c.add_number-place.ensures.1 in
    let r3 = ran_next _ _ _ _ _ _ _ r2 c.add_word-word.ensures.0 c.add_word-word.ensures.1 in
    let r4 = ran_next _ _ _ _ _ _ _ r3 c.add_number.ensures.0 c.add_number.ensures.1 in
    as_line _ _ _ _ _ (three_fields (letters "#" ++ decimal_of a.index) (letters "REFUSED") (decimal_of a.number)) r4
