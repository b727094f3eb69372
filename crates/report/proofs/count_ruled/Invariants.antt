use Prim.Native.Nat.{◌-◌}
use mathlib.Core.Path.{◌≡◌}
use Rattle.cut.proofs.Walk.{At}
use Rattle.sheet.specs.Sheet.{ruled_in}
use Rattle.report.proofs.count_ruled.Given as goal

abbrev pub invariant-loop-i : goal.invariant-loop-i
invariant-loop-i l = At l.sheet l._i l.at × (l.ruled ≡ ruled_in l.sheet l._i)
