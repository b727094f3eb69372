use native.Mathlib.Omega.{arith}
use Rattle.text.proofs.Placed.{placed_next}
use Rattle.standing.specs.Standing.{read_line}
use Rattle.standing.proofs.add_read.Goals as goal

pub returns : goal.returns
unfolding read_line
returns c = let e2 = placed_next _ _ _ _ _ _ _ _ (omega arith) c.add_decimal-first.ensures.0 c.add_decimal-first.ensures.1 c.add_word-word.ensures.0 c.add_word-word.ensures.1 in
    let e3 = placed_next _ _ _ _ _ _ _ _ (omega arith) e2.0 e2.1 c.add_decimal-second.ensures.0 c.add_decimal-second.ensures.1 in
    let e4 = placed_next _ _ _ _ _ _ _ _ (omega arith) e3.0 e3.1 c.add_word.ensures.0 c.add_word.ensures.1 in
    (e4.0, e4.1, omega arith)
