use native.Mathlib.Omega.{arith}
use Rattle.text.proofs.Placed.{ran_first, ran_next}
use Rattle.standing.specs.Standing.{before_line}
use Rattle.standing.proofs.put_before.Goals as goal

pub returns : goal.returns
unfolding before_line
returns c = let r1 = ran_first _ _ _ _ c.add_word-words.ensures.0 c.add_word-words.ensures.1 in
    let r2 = ran_next _ _ _ _ _ _ _ r1 c.add_time-figures.ensures.0 c.add_time-figures.ensures.1 in
    let r3 = ran_next _ _ _ _ _ _ _ r2 c.add_byte.ensures.0 c.add_byte.ensures.1 in
    (r3.0, r3.1, omega arith)
