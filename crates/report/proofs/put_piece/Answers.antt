use mathlib.Core.Path.{refl}
use native.Mathlib.Omega.{arith}
use Rattle.wire.proofs.Laid.{laid_none}
use Rattle.cut.proofs.Walk.{at_is}
use Rattle.lines.proofs.Joined.{as_line}
use Rattle.report.proofs.Pieces.{at_place, at_line, at_none}
use Rattle.report.proofs.put_piece.Goals as goal

pub length_at-step-requires : goal.length_at-step-requires
length_at-step-requires c = (at_place _ _ _ _ c.requires.0 c.if-i-n.true c.start_of-from.ensures).inside

pub put_case-p-requires : goal.put_case-p-requires
put_case-p-requires c = (at_is _ _ _ _ (at_place _ _ _ _ c.requires.0 c.if-i-n.true c.start_of-from.ensures) (omega (arith, c.requires.0)) c.length_at-step.ensures.0, omega arith)

pub returns-then-i-n : goal.returns-then-i-n
returns-then-i-n c = as_line _ _ _ _ _ (at_line c.args.sheet.now _ c.args.k _ _ _ (omega arith) c.requires.0 c.if-i-n.true c.start_of-from.ensures c.length_at-step.ensures.0) (c.put_case-p.ensures.0, c.put_case-p.ensures.2)

pub returns : goal.returns
returns c = let a = c.args in as_line _ _ _ _ _ (at_none a.sheet.now _ a.k _ (omega arith) c.if-i-n.false c.if-i-n-2.false) (refl, laid_none _)
