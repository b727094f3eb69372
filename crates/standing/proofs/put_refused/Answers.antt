use native.Mathlib.Omega.{arith}
use Rattle.text.proofs.Placed.{ran_first, ran_next}
use Rattle.standing.specs.Standing.{lookup_line}
use Rattle.standing.proofs.put_refused.Goals as goal

pub returns : goal.returns
unfolding lookup_line
returns c = let r1 = ran_first _ _ _ _ c.add_word-word.ensures.0 c.add_word-word.ensures.1 in
    let r2 = ran_next _ _ _ _ _ _ _ r1 c.add_refusal.ensures.0 c.add_refusal.ensures.1 in
    (r2.0, r2.1, omega arith)
