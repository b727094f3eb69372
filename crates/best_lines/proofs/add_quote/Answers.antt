use native.Mathlib.Omega.{arith}
use Rattle.text.proofs.Placed.{placed_next}
use Rattle.best_lines.specs.BestLines.{quote_line}
use Rattle.best_lines.proofs.add_quote.Goals as goal

pub returns : goal.returns
unfolding quote_line
returns c = let v = rw c.half_of.ensures at c.add_size.ensures in
    let e2 = placed_next _ _ _ _ _ _ _ _ (omega arith) c.add_word-word.ensures.0 c.add_word-word.ensures.1 c.add_decimal-number.ensures.0 c.add_decimal-number.ensures.1 in
    let e3 = placed_next _ _ _ _ _ _ _ _ (omega arith) e2.0 e2.1 c.add_word-since.ensures.0 c.add_word-since.ensures.1 in
    let e4 = placed_next _ _ _ _ _ _ _ _ (omega arith) e3.0 e3.1 c.add_time-time.ensures.0 c.add_time-time.ensures.1 in
    let e5 = placed_next _ _ _ _ _ _ _ _ (omega arith) e4.0 e4.1 v.0 v.1 in
    (e5.0, e5.1, omega arith)
