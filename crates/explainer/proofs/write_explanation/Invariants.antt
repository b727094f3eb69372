-- The pieces so far were appended.
use Rattle.std.specs.Io.KnownBytes.{Appends}
use Rattle.wire.specs.Laid.{row}
use Rattle.explanation.specs.Pieces.{explained_piece}
use Rattle.explainer.proofs.write_explanation.Given as goal

abbrev pub invariant-loop-k : goal.invariant-loop-k
invariant-loop-k g l = Appends (g.W.Write.contents l.initial.output) (g.W.Write.contents l.output) (row (explained_piece l.sheet l.want) l.k)
