-- Where a piece is empty those before it are the report, and 602 pieces always are.
use Rattle.std.proofs.Common.{◌≡◌, arith, sym, ap, ◌∙◌, subst}
use Rattle.std.specs.Io.KnownBytes.{Appends}
use Rattle.wire.specs.Laid.{row}
use Rattle.report.specs.Pieces.{piece_of}
use Rattle.report.proofs.Pieces.{until_empty, all_pieces}
use Rattle.streams.proofs.Pieces.{no_pieces, one_more}
use Rattle.printer.proofs.write_report.Goals as goal

pub loop-k-init : goal.loop-k-init
loop-k-init g c = no_pieces (piece_of c.args.sheet.now) _

pub returns-then-n-eq0 : goal.returns-then-n-eq0
returns-then-n-eq0 g c =
    subst (Appends _ _) (until_empty c.args.sheet.now c.loop-k.k (sym c.print_piece-n.ensures.value.0 ∙ c.if-n-eq0.true)) c.loop-k.invariant

pub loop-k-preserved : goal.loop-k-preserved
loop-k-preserved g c =
    one_more (piece_of c.args.sheet.now) c.loop-k.k _ _ _ _ _ _ c.print_piece-n.ensures.value c.loop-k.invariant c.in_ok-write_all.ensures

pub returns : goal.returns
returns g c =
    let all : c.loop-k.k ≡ 602 = omega arith in
    subst (Appends _ _) (ap (row (piece_of c.args.sheet.now)) all ∙ all_pieces c.args.sheet.now) c.loop-k.invariant
