use native.Mathlib.Omega.{arith}
use Rattle.text.proofs.Placed.{ran_first, ran_next}
use Rattle.explanation.proofs.put_indexed.Goals as goal

pub returns : goal.returns
returns c = let i = c.add_index-next.ensures in let w = c.add_case.ensures in let r = ran_next _ _ _ _ _ _ _ (ran_first _ _ _ _ i.0 i.1) w.0 w.1 in
    (r.0, r.1, omega (arith, i.2, w.2))
