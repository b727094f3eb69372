use native.Mathlib.Omega.{arith}
use Rattle.text.proofs.Placed.{ran_first, ran_next}
use Rattle.fill_report.specs.Told.{left_line}
use Rattle.fill_report.proofs.put_left.Goals as goal

pub returns : goal.returns
unfolding left_line
returns c = let r1 = ran_first _ _ _ _ c.add_byte-mark.ensures.0 c.add_byte-mark.ensures.1 in
    let r2 = ran_next _ _ _ _ _ _ _ r1 c.add_decimal-place.ensures.0 c.add_decimal-place.ensures.1 in
    let r3 = ran_next _ _ _ _ _ _ _ r2 c.add_word-words.ensures.0 c.add_word-words.ensures.1 in
    let r4 = ran_next _ _ _ _ _ _ _ r3 c.add_refusal.ensures.0 c.add_refusal.ensures.1 in
    (r4.0, r4.1, omega arith)
