use Rattle.best.proofs.Said.{best_start, best_turn}
use lib.ListN.{length}
use native.Mathlib.Omega.{arith}
use mathlib.Core.Path.{◌≡◌}
use Rattle.best.proofs.best_price.Goals as goal

pub loop-i-init : goal.loop-i-init
loop-i-init c = let h : length c.args.last ≡ 16 = omega arith in
    (omega arith, (h, best_start _ _ c.args.last 16 (omega arith)))

pub loop-i-preserved : goal.loop-i-preserved
loop-i-preserved c = let a = c.args in (omega arith, (c.loop-i.invariant.1.0, best_turn _ _ a.last c.loop-i.i _ _ _ (omega arith) (omega arith) c.said_at.ensures c.loop-i.invariant.1.1 c.better-best.ensures))
