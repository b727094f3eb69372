use Rattle.std.proofs.Common.{◌≡◌, arith, ap, subst}
use Rattle.std.specs.Io.KnownBytes.{Appends}
use Rattle.wire.specs.Laid.{row}
use Rattle.warnings.specs.Warned.{warned_piece, warnings_of}
use Rattle.streams.proofs.Pieces.{no_pieces, one_more}
use Rattle.warner.proofs.write_warnings.Goals as goal

pub loop-k-init : goal.loop-k-init
loop-k-init g c = no_pieces (warned_piece c.args.sheet.now) _

pub loop-k-preserved : goal.loop-k-preserved
loop-k-preserved g c = one_more (warned_piece c.args.sheet.now) c.loop-k.k _ _ _ _ _ _ c.warn_piece-m.ensures.value c.loop-k.invariant c.in_ok-write_all.ensures

pub returns : goal.returns
unfolding warnings_of
returns g c =
    let all : c.loop-k.k ≡ 600 = omega arith in
    subst (Appends _ _) (ap (row (warned_piece c.args.sheet.now)) all) c.loop-k.invariant
