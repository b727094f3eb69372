-- The pieces so far were appended.
use Rattle.std.specs.Io.KnownBytes.{Appends}
use Rattle.wire.specs.Laid.{row}
use Rattle.warnings.specs.Warned.{warned_piece}
use Rattle.warner.proofs.write_warnings.Given as goal

abbrev pub invariant-loop-k : goal.invariant-loop-k
invariant-loop-k g l = Appends (g.W.Write.contents l.initial.output) (g.W.Write.contents l.output) (row (warned_piece l.sheet) l.k)
