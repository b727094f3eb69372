-- What was written is the text made of what was read.
use Rattle.std.proofs.Common.{subst}
use Rattle.std.specs.Io.KnownBytes.{Appends}
use Rattle.spelling.specs.Times.{time_in}
use Rattle.standing.specs.Standing.{best_text}
use Rattle.streams.proofs.Pieces.{laid_taken}
use Rattle.streams.proofs.Whole.{of_input, ok_given, done_given}
use Rattle.finder.proofs.tell.Goals as goal

pub returns : goal.returns
returns g c =
    let first = ok_given _ _ _ _ c.in_ok-n.n c.map_err.ensures.cases c.in_ok-n.was c.read_ended.ensures.first in
    done_given _ _ _ _ c.map_err-2.ensures.variant c.write_all.ensures
    (λ wrote. of_input (λ l. Appends (g.W.Write.contents c.args.output.now) (g.W.Write.contents c.write_all.new.output) (best_text l (time_in c.args.time.now)))
    _ c.in_ok-n.n 65536 c.read_ended.new.buf c.read_ended.auto.buf first (subst (Appends _ _) (laid_taken _ _ _ _ c.print_best-k.ensures.value) wrote))
