-- What was written is what was read, filled.
use Rattle.std.proofs.Common.{◌≡◌, take, subst}
use Rattle.std.specs.Io.KnownBytes.{Appends}
use Rattle.fillings.specs.Fillings.{fill_sheet_of}
use Rattle.streams.proofs.Whole.{of_input, ok_given}
use Rattle.filler.proofs.fill.Goals as goal

pub returns : goal.returns
returns g c =
    let first = ok_given _ _ _ _ c.in_ok-n.n c.map_err.ensures.cases c.in_ok-n.was c.read_ended.ensures.first in
    let sheet = take c.in_ok-n.n c.read_ended.new.buf in
    let written : (fill_sheet_of c.args.quotes.now sheet).0 ≡ 0 → Appends (g.W.Write.contents c.args.output.now) (g.W.Write.contents c.write_filled.new.output) c.write_filled.new.sheet =
    ok_given _ _ _ _ c.in_ok-map_err.field-0 c.map_err-2.ensures.cases c.in_ok-map_err.was c.write_filled.ensures.written in
    of_input (λ l. (fill_sheet_of c.args.quotes.now l).0 ≡ 0 → Appends (g.W.Write.contents c.args.output.now) (g.W.Write.contents c.write_filled.new.output) (fill_sheet_of c.args.quotes.now l).1)
    _ c.in_ok-n.n 65536 c.read_ended.new.buf c.read_ended.auto.buf first (λ whole. subst (Appends _ _) c.write_filled.ensures.filled (written whole))
