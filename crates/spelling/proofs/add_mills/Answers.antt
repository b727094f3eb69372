use native.Mathlib.Omega.{arith}
use Rattle.text.proofs.Placed.{placed_next}
use Rattle.spelling.specs.Dollars.{mills_text}
use Rattle.spelling.proofs.add_mills.Goals as goal

pub returns : goal.returns
unfolding mills_text
returns c = let v = simp c.decimals_of.ensures at c.add_word.ensures in
    let e = placed_next _ _ _ _ _ _ _ _ (omega arith) c.add_decimal-point.ensures.0 c.add_decimal-point.ensures.1 v.0 v.1 in
    (e.0, e.1, omega (arith, c.add_decimal-point.ensures.2, v.0))
