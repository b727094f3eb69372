-- What was written is the explanation of what was read.
use Rattle.std.specs.Io.KnownBytes.{Appends}
use Rattle.explanation.specs.Pieces.{explanation_of}
use Rattle.streams.proofs.Whole.{of_input, ok_given, done_given}
use Rattle.explainer.proofs.explain.Goals as goal

pub returns : goal.returns
returns g c =
    let first = ok_given _ _ _ _ c.in_ok-n.n c.map_err.ensures.cases c.in_ok-n.was c.read_ended.ensures.first in
    done_given _ _ _ _ c.map_err-2.ensures.variant c.write_explanation.ensures
    (of_input (λ l. Appends (g.W.Write.contents c.args.output.now) (g.W.Write.contents c.write_explanation.new.output) (explanation_of l c.args.want)) _ c.in_ok-n.n 65536 c.read_ended.new.buf c.read_ended.auto.buf first)
