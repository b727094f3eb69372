use native.Mathlib.Omega.{arith}
use Prim.Native.Nat.{ℕ}
use mathlib.Core.Path.{sym, ap, ◌∙◌}
use Rattle.sheet.proofs.Turns.{whole_few}
use Rattle.report.proofs.Lines.{printed}
use Rattle.explanation.proofs.Told.{whole_piece, refused_piece_lem}
use Rattle.explanation.specs.Pieces.{explain_piece}
use Rattle.explanation.proofs.explain_piece.Goals as goal

pub put_piece-requires : goal.put_piece-requires
put_piece-requires c = let k = c.whole_cases-c.ensures in (k.1, rw k.1 (whole_few _ (sym k.0 ∙ c.if-c.true)), omega arith)

pub returns-then-c : goal.returns-then-c
returns-then-c c = let a = c.args in let s = a.sheet.now in
    let k = c.whole_cases-c.ensures in let w = c.put_piece.ensures in let p = printed _ _ _ _ _ (whole_piece s a.want a.k (sym k.0 ∙ c.if-c.true) ∙ ap (λ (m : ℕ). explain_piece s m a.want a.k) (sym k.1)) (w.0, w.1) (omega (arith, w.0, w.2)) in
    record { value = p.0; upper_bound = p.1 }

pub returns : goal.returns
returns c = let a = c.args in let w = c.put_report.ensures in let p = printed _ _ _ _ _ (refused_piece_lem a.sheet.now a.want a.k (sym c.whole_cases-c.ensures.0 ∙ c.if-c.false)) (w.0, w.1) (omega (arith, w.0, w.2)) in
    record { value = p.0; upper_bound = p.1 }
