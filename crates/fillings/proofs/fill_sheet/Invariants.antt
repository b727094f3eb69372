use Prim.Native.Nat.{◌-◌}
use lib.ListN.{length}
use Rattle.fillings.proofs.Turns.{Turn}
use Rattle.fillings.proofs.fill_sheet.Given as goal

abbrev pub invariant-loop-step : goal.invariant-loop-step
invariant-loop-step l = Turn l.quotes l.initial.sheet l.sheet l.from l.step

abbrev pub decreases-loop-step : goal.decreases-loop-step
decreases-loop-step l = length l.initial.sheet - l.from
