use Prim.Native.Nat.{◌-◌}
use Rattle.fill_report.proofs.Turns.{Turn}
use Rattle.fill_report.proofs.put_cases.Given as goal

abbrev pub invariant-loop-i : goal.invariant-loop-i
invariant-loop-i l = Turn l.quotes l.sheet l.initial.out l.out l.i l.from l.at l.filled l.read
