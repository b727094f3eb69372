use Rattle.best.proofs.Sought.{met_last, passed, nobody_met}
use native.Mathlib.Omega.{arith}
use mathlib.Core.Path.{◌∙◌}
use Rattle.best.proofs.last_before.Goals as goal

pub returns-then-q-trade_time : goal.returns-then-q-trade_time
returns-then-q-trade_time c = met_last _ _ _ c.loop-k.k _ c.posted_at-q.ensures (omega arith) c.if-q-trade_time.true ∙ c.loop-k.invariant.1

pub loop-k-preserved : goal.loop-k-preserved
loop-k-preserved c = (omega arith, passed _ _ _ c.loop-k.k _ c.posted_at-q.ensures (omega arith) c.if-q-trade_time.false ∙ c.loop-k.invariant.1)

pub returns : goal.returns
returns c = nobody_met _ _ _ c.loop-k.k (omega arith) ∙ c.loop-k.invariant.1
