use Rattle.report.proofs.Pieces.{piece_most}
use native.Mathlib.Omega.{arith}
use Rattle.text.proofs.Placed.{ran_first}
use Rattle.lines.proofs.Joined.{as_line}
use Rattle.explanation.proofs.Told.{laid_told}
use Rattle.explanation.proofs.put_report.Goals as goal

pub returns : goal.returns
returns c = let p = c.print_piece-n.ensures in let w = c.add_word.ensures in let r = as_line _ _ _ _ _ (laid_told _ _ _ _ p.value.0 p.value.1) (ran_first _ _ _ _ w.0 w.1) in
    (r.0, r.1, omega (arith, r.0, piece_most c.args.sheet.now c.args.k))
