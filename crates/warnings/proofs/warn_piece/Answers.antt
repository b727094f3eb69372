use mathlib.Core.List.{[]}
use native.Mathlib.Omega.{arith}
use Prim.Native.Nat.{ℕ, zero-le}
use mathlib.Core.Path.{refl, sym, ap, ◌∙◌}
use Rattle.wire.proofs.Laid.{laid_none}
use Rattle.sheet.proofs.Turns.{whole_few}
use Rattle.report.proofs.Lines.{printed}
use Rattle.warnings.specs.Warned.{warned_at}
use Rattle.warnings.proofs.Warned.{whole_piece, refused_piece_lem}
use Rattle.warnings.proofs.warn_piece.Goals as goal

pub put_at-requires : goal.put_at-requires
put_at-requires c = let k = c.whole_cases-c.ensures in (k.1, rw k.1 (whole_few _ (sym k.0 ∙ c.if-c.true)), omega arith)

pub returns-then-c : goal.returns-then-c
returns-then-c c = let a = c.args in let s = a.sheet.now in
    let k = c.whole_cases-c.ensures in let w = c.put_at.ensures in let p = printed _ _ _ _ _ (whole_piece s a.k (sym k.0 ∙ c.if-c.true) ∙ ap (λ (m : ℕ). warned_at s m a.k) (sym k.1)) (w.0, w.1) (omega (arith, w.0, w.2)) in
    record { value = p.0; upper_bound = p.1 }

pub returns : goal.returns
returns c = let a = c.args in let p = printed _ [] _ _ 0 (refused_piece_lem a.sheet.now a.k (sym c.whole_cases-c.ensures.0 ∙ c.if-c.false)) (refl, laid_none _) zero-le in
    record { value = p.0; upper_bound = p.1 }
