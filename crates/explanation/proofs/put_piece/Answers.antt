use native.Mathlib.Omega.{arith}
use Rattle.text.proofs.Placed.{ran_first}
use Rattle.lines.proofs.Joined.{as_line}
use Rattle.cut.proofs.Walk.{at_is}
use Rattle.report.proofs.Pieces.{at_place}
use Rattle.explanation.proofs.Told.{at_head, at_case}
use Rattle.explanation.specs.Pieces.{desk_alone}
use Rattle.explanation.proofs.put_piece.Goals as goal

pub returns-then-k-eq0 : goal.returns-then-k-eq0
unfolding desk_alone
returns-then-k-eq0 c = let w = c.add_word.ensures in let a = c.args in let r = as_line _ _ _ _ _ (at_head a.sheet.now a.n a.k a.want c.if-k-eq0.true) (ran_first _ _ _ _ w.0 w.1) in
    (r.0, r.1, omega (arith, w.0))

pub length_at-step-requires : goal.length_at-step-requires
length_at-step-requires c = (at_place _ _ _ _ c.requires.0 c.if-i-n.true c.start_of-from.ensures).inside

pub put_case-requires : goal.put_case-requires
put_case-requires c = (at_is _ _ _ _ (at_place _ _ _ _ c.requires.0 c.if-i-n.true c.start_of-from.ensures) (omega (arith, c.requires.0)) c.length_at-step.ensures.0, omega arith)

pub returns-then-i-n : goal.returns-then-i-n
returns-then-i-n c = let w = c.put_case.ensures in let e = at_case c.args.sheet.now _ c.args.k _ _ _ c.args.want (omega arith) c.requires.0 c.if-i-n.true c.start_of-from.ensures c.length_at-step.ensures.0 in
    let r = as_line _ _ _ _ _ e (w.0, w.1) in
    (r.0, r.1, w.2)
