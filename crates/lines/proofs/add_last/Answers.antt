use Rattle.lines.proofs.Joined.{four_fields}
use native.Mathlib.Omega.{arith}
use Rattle.text.proofs.Placed.{placed_next}
use Rattle.lines.proofs.add_last.Goals as goal

pub returns : goal.returns
returns c = let e = placed_next _ _ _ _ _ _ _ _ (omega arith) c.add_number-adjusted.ensures.0 c.add_number-adjusted.ensures.1 c.add_number-nullified.ensures.0 c.add_number-nullified.ensures.1 in
    let d = placed_next _ _ _ _ _ _ _ _ (omega arith) e.0 e.1 c.add_number-standing.ensures.0 c.add_number-standing.ensures.1 in
    rw (← four_fields _ _ _ _) (placed_next _ _ _ _ _ _ _ _ (omega arith) d.0 d.1 c.add_number.ensures.0 c.add_number.ensures.1)
