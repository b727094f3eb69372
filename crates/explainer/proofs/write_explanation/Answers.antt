use Rattle.std.proofs.Common.{◌≡◌, arith, ap, ◌∙◌, subst}
use Rattle.std.specs.Io.KnownBytes.{Appends}
use Rattle.wire.specs.Laid.{row}
use Rattle.explanation.specs.Pieces.{explained_piece, explanation_of}
use Rattle.streams.proofs.Pieces.{no_pieces, one_more}
use Rattle.explainer.proofs.write_explanation.Goals as goal

pub loop-k-init : goal.loop-k-init
loop-k-init g c = no_pieces (explained_piece c.args.sheet.now c.args.want) _

pub loop-k-preserved : goal.loop-k-preserved
loop-k-preserved g c =
    one_more (explained_piece c.args.sheet.now c.args.want) c.loop-k.k _ _ _ _ _ _ c.explain_piece-m.ensures.value c.loop-k.invariant c.in_ok-write_all.ensures

pub returns : goal.returns
unfolding explanation_of
returns g c =
    let all : c.loop-k.k ≡ c.count_pieces-k-end.result = omega arith in
    subst (Appends _ _) (ap (row (explained_piece c.args.sheet.now c.args.want)) (all ∙ c.count_pieces-k-end.ensures.0)) c.loop-k.invariant
