use native.Mathlib.Omega.{arith}
use Rattle.text.proofs.Placed.{ran_first, ran_next}
use Rattle.lines.proofs.Joined.{as_line}
use Rattle.words.proofs.Runs.{row_alone}
use Rattle.warnings.proofs.Warned.{warned_joined}
use Rattle.warnings.proofs.put_warned.Goals as goal

pub returns : goal.returns
returns c = let i = c.add_index-next.ensures in let h = c.add_row-head.ensures in let w = c.add_cautions.ensures in let a = c.args in let first = ran_first _ _ _ _ i.0 i.1 in
    let row = row_alone _ _ _ _ _ _ _ c.trade_row.ensures h in
    let two = ran_next _ _ _ _ _ _ _ first row.0 row.1 in
    let three = ran_next _ _ _ _ _ _ _ two w.0 w.1 in
    let r = as_line _ _ _ _ _ (warned_joined a.index a.trade a.cautions) three in
    (r.0, r.1, omega (arith, i.2, h.2, w.2))
