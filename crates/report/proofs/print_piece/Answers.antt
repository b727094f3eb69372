use Prim.Native.Nat.{ℕ, zero-le}
use mathlib.Core.List.{[]}
use mathlib.Core.Path.{refl, sym, ap, ◌∙◌}
use native.Mathlib.Omega.{arith}
use Rattle.wire.proofs.Laid.{laid_none}
use Rattle.sheet.proofs.Turns.{whole_few}
use Rattle.lines.proofs.Lengths.{sheet_most}
use Rattle.report.proofs.Lines.{printed}
use Rattle.report.specs.Pieces.{ruled_piece, refused_piece}
use Rattle.report.proofs.Pieces.{piece_whole, piece_refused, ruled_piece_most, refused_piece_past}
use Rattle.report.proofs.print_piece.Goals as goal

pub put_piece-requires : goal.put_piece-requires
put_piece-requires c = let k = c.whole_cases-c.ensures in (k.1, rw k.1 (whole_few _ (sym k.0 ∙ c.if-c.true)), omega arith)

pub returns-then-c : goal.returns-then-c
returns-then-c c = let a = c.args in let s = a.sheet.now in
    let k = c.whole_cases-c.ensures in let n = c.whole_cases-c.result.cases in let p = printed _ _ _ _ _ (piece_whole s (sym k.0 ∙ c.if-c.true) a.k ∙ ap (λ (m : ℕ). ruled_piece s m a.k) (sym k.1)) c.put_piece.ensures (omega (arith, ruled_piece_most s n a.k)) in
    record { value = p.0; upper_bound = p.1 }

pub returns-then-k-eq0 : goal.returns-then-k-eq0
returns-then-k-eq0 c = let a = c.args in let e = piece_refused a.sheet.now (sym c.whole_cases-c.ensures.0 ∙ c.if-c.false) a.k in
    let p = printed _ _ _ _ _ (e ∙ ap refused_piece c.if-k-eq0.true) c.put_sheet.ensures (omega (arith, sheet_most 10)) in
    record { value = p.0; upper_bound = p.1 }

pub returns : goal.returns
returns c = let a = c.args in let e = piece_refused a.sheet.now (sym c.whole_cases-c.ensures.0 ∙ c.if-c.false) a.k in
    let p = printed _ [] _ _ 0 (e ∙ refused_piece_past a.k (omega arith)) (refl, laid_none _) zero-le in
    record { value = p.0; upper_bound = p.1 }
