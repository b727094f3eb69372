-- The pieces so far were appended.
use Rattle.std.specs.Io.KnownBytes.{Appends}
use Rattle.wire.specs.Laid.{row}
use Rattle.report.specs.Pieces.{piece_of}
use Rattle.printer.proofs.write_report.Given as goal

abbrev pub invariant-loop-k : goal.invariant-loop-k
invariant-loop-k g l = Appends (g.W.Write.contents l.initial.output) (g.W.Write.contents l.output) (row (piece_of l.sheet) l.k)
