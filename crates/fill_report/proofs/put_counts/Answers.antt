use native.Mathlib.Omega.{arith}
use Rattle.text.proofs.Placed.{ran_first, ran_next}
use Rattle.fill_report.specs.Told.{count_line}
use Rattle.fill_report.proofs.put_counts.Goals as goal

pub returns : goal.returns
unfolding count_line
returns c = let r1 = ran_first _ _ _ _ c.add_decimal-first.ensures.0 c.add_decimal-first.ensures.1 in
    let r2 = ran_next _ _ _ _ _ _ _ r1 c.add_word-middle.ensures.0 c.add_word-middle.ensures.1 in
    let r3 = ran_next _ _ _ _ _ _ _ r2 c.add_decimal-second.ensures.0 c.add_decimal-second.ensures.1 in
    let r4 = ran_next _ _ _ _ _ _ _ r3 c.add_word-word.ensures.0 c.add_word-word.ensures.1 in
    let r5 = ran_next _ _ _ _ _ _ _ r4 c.add_decimal-third.ensures.0 c.add_decimal-third.ensures.1 in
    let r6 = ran_next _ _ _ _ _ _ _ r5 c.add_word.ensures.0 c.add_word.ensures.1 in
    (r6.0, r6.1, omega (arith, c.add_word.ensures.0))
