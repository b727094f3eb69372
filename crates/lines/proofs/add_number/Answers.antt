use native.Mathlib.Omega.{arith}
use Rattle.text.proofs.Placed.{placed_next}
use Rattle.lines.proofs.add_number.Goals as goal

pub returns : goal.returns
returns c = let e = placed_next _ _ _ _ _ _ _ _ (omega arith) c.add_decimal-next.ensures.0 c.add_decimal-next.ensures.1 c.add_byte.ensures.0 c.add_byte.ensures.1 in
    (e.0, e.1, omega (arith, c.add_decimal-next.ensures.2, c.add_byte.ensures.0))
