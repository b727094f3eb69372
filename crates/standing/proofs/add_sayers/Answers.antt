use native.Mathlib.Omega.{arith}
use Rattle.standing.proofs.Turns.{first, next_turn}
use Rattle.standing.proofs.add_sayers.Goals as goal

pub loop-i-init : goal.loop-i-init
loop-i-init c = first _ _ _ (omega arith)

pub loop-i-preserved : goal.loop-i-preserved
loop-i-preserved c = let v = rw c.last_before-last.ensures at c.add_sayer-next.ensures in
    next_turn _ _ _ (omega arith) _ _ _ _ _ c.loop-i.invariant (omega arith) v (omega arith)
