-- What was printed is the report of what was read.
use Rattle.std.specs.Io.KnownBytes.{Appends}
use Rattle.report.specs.Report.{text_of}
use Rattle.streams.proofs.Whole.{of_input, done_given}
use Rattle.printer.proofs.print.Goals as goal

pub returns : goal.returns
returns g c =
    done_given _ _ _ _ c.map_err.ensures.variant c.write_report.ensures
    (of_input (λ l. Appends (g.W.Write.contents c.args.output.now) (g.W.Write.contents c.write_report.new.output) (text_of l)) _ c.in_ok-n.n 52801 c.read_sheet.new.sheet c.read_sheet.auto.sheet c.in_ok-n.ensures.first)
