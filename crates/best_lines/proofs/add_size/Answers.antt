use native.Mathlib.Omega.{arith}
use Rattle.text.proofs.Placed.{placed_next}
use Rattle.best_lines.specs.BestLines.{size_text}
use Rattle.best_lines.proofs.add_size.Goals as goal

pub returns : goal.returns
unfolding size_text
returns c = let e2 = placed_next _ _ _ _ _ _ _ _ (omega arith) c.add_word-word.ensures.0 c.add_word-word.ensures.1 c.add_decimal-figures.ensures.0 c.add_decimal-figures.ensures.1 in
    let e3 = placed_next _ _ _ _ _ _ _ _ (omega arith) e2.0 e2.1 c.add_byte.ensures.0 c.add_byte.ensures.1 in
    (e3.0, e3.1, omega arith)
