use Rattle.earlier.proofs.Between.{Between}
use Prim.Native.Nat.{◌-◌}
use Rattle.earlier.proofs.count_before.Given as goal

abbrev pub invariant-loop-low : goal.invariant-loop-low
invariant-loop-low l = Between l.quotes l.trade_time l.low l.high

abbrev pub decreases-loop-low : goal.decreases-loop-low
decreases-loop-low l = l.high - l.low
