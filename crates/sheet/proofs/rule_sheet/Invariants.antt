use Prim.Native.Nat.{◌-◌}
use Rattle.sheet.specs.Sheet.{entry_bytes}
use Rattle.sheet.proofs.Turns.{Turn}
use Rattle.sheet.proofs.rule_sheet.Given as goal

abbrev pub invariant-loop-i : goal.invariant-loop-i
invariant-loop-i l = Turn 0 entry_bytes 96 l.sheet l.initial.out l.out l.i l.from l.at l.ruled
