use Prim.Native.Nat.{◌-◌}
use Rattle.sheet.proofs.Turns.{Turn}
use Rattle.report.specs.Report.{case_line}
use Rattle.report.proofs.put_lines.Given as goal

abbrev pub invariant-loop-i : goal.invariant-loop-i
invariant-loop-i l = Turn l.initial.at case_line 96 l.sheet l.initial.out l.out l.i l.from l.at l.ruled
