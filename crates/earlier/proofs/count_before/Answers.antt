use Rattle.earlier.proofs.Between.{raised, lowered, met_count}
use native.Mathlib.Omega.{arith}
use Prim.Native.Nat.{◌+◌, ◌-◌, ◌/◌}
use Rattle.earlier.proofs.count_before.Goals as goal

pub loop-low-preserved-then-posted_at-trade_time : goal.loop-low-preserved-then-posted_at-trade_time
loop-low-preserved-then-posted_at-trade_time c = let low = c.loop-low.low in let high = c.loop-low.high in raised _ _ c.requires low high (low + (high - low) / 2) c.loop-low.invariant (omega arith) (omega arith) _ c.posted_at.ensures c.if-posted_at-trade_time.true

pub loop-low-preserved : goal.loop-low-preserved
loop-low-preserved c = let low = c.loop-low.low in let high = c.loop-low.high in lowered _ _ c.requires low high (low + (high - low) / 2) c.loop-low.invariant (omega arith) (omega arith) _ c.posted_at.ensures c.if-posted_at-trade_time.false

pub returns : goal.returns
returns c = met_count _ _ c.loop-low.low c.loop-low.high c.loop-low.invariant (omega arith)
