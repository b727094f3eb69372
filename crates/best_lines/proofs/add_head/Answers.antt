use native.Mathlib.Omega.{arith}
use Rattle.text.proofs.Placed.{placed_next}
use Rattle.best_lines.specs.BestLines.{head_line}
use Rattle.best_lines.proofs.add_head.Goals as goal

pub returns : goal.returns
unfolding head_line
returns c =
    let v = simp c.head_name.ensures.name at c.add_word-name.ensures in
    let e2 = placed_next _ _ _ _ _ _ _ _ (omega arith) v.0 v.1 c.add_dollars-dollars.ensures.0 c.add_dollars-dollars.ensures.1 in
    let e3 = placed_next _ _ _ _ _ _ _ _ (omega arith) e2.0 e2.1 c.add_amount.ensures.0 c.add_amount.ensures.1 in
    (e3.0, e3.1, omega arith)
