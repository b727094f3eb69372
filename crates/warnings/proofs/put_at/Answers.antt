use native.Mathlib.Omega.{arith}
use mathlib.Core.Path.{refl}
use Rattle.wire.proofs.Laid.{laid_none}
use Rattle.lines.proofs.Joined.{as_line}
use Rattle.cut.proofs.Walk.{at_is}
use Rattle.report.proofs.Pieces.{at_place}
use Rattle.warnings.proofs.Warned.{at_case, at_none}
use Rattle.warnings.proofs.put_at.Goals as goal

pub length_at-step-requires : goal.length_at-step-requires
length_at-step-requires c = (at_place _ _ _ _ c.requires.0 c.if-k-n.true c.start_of-from.ensures).inside

pub put_case-requires : goal.put_case-requires
put_case-requires c = (at_is _ _ _ _ (at_place _ _ _ _ c.requires.0 c.if-k-n.true c.start_of-from.ensures) (omega (arith, c.requires.0)) c.length_at-step.ensures.0, omega arith)

pub returns-then-k-n : goal.returns-then-k-n
returns-then-k-n c = let w = c.put_case.ensures in let e = at_case c.args.sheet.now _ c.args.k _ _ c.requires.0 c.if-k-n.true c.start_of-from.ensures c.length_at-step.ensures.0 in
    let r = as_line _ _ _ _ _ e (w.0, w.1) in
    (r.0, r.1, w.2)

pub returns : goal.returns
returns c = let a = c.args in let r = as_line _ _ _ _ _ (at_none a.sheet.now a.n a.k c.if-k-n.false) (refl, laid_none _) in
    (r.0, r.1, omega (arith, r.0))
