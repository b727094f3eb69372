use Prim.Native.Nat.{◌-◌}
use mathlib.Core.Path.{◌≡◌}
use native.Mathlib.Omega.{arith}
use lib.ListN.{length}
use Rattle.text.proofs.Placed.{placed_next}
use Rattle.words.specs.Pieces.{row_text}
use Rattle.words.proofs.Rows.{nothing_laid, row_more}
use Rattle.words.proofs.add_row.Goals as goal

pub loop-piece-init : goal.loop-piece-init
unfolding row_text
loop-piece-init c = (omega arith, omega arith, nothing_laid _ _ (omega arith), omega arith, omega arith)

pub loop-piece-preserved : goal.loop-piece-preserved
loop-piece-preserved c = let l = c.loop-piece in let a = c.args in let many : length a.row ≡ 10 = omega arith in
    let e = placed_next _ _ _ _ _ _ _ _ (omega arith) l.invariant.1 l.invariant.2 c.add_piece-next.ensures.0 c.add_piece-next.ensures.1 in
    let f = row_more _ _ a.row l.piece-index _ _ _ (omega arith) e in
    (omega arith, f.0, f.1, omega (arith, l.invariant.3, c.add_piece-next.ensures.2), omega arith)
