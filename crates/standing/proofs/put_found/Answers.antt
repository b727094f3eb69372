use native.Mathlib.Omega.{arith}
use Rattle.standing.proofs.Answers.{text_refused, both_few, whole_found}
use Rattle.standing.proofs.put_found.Goals as goal

pub returns-then-looked-ne0 : goal.returns-then-looked-ne0
returns-then-looked-ne0 c =
    let w = rw (← text_refused _ _ _ c.quotes_before-before.ensures _ c.find_best-looked.ensures c.if-looked-ne0.true) at c.put_refused.ensures in
    (w.0, w.1, omega arith)

-- the number of quotes before and the number read, as they were found, are at most 2,000
pub overflow_cast-looked : goal.overflow_cast-looked
overflow_cast-looked c = omega (arith, both_few _ _ _ c.quotes_before-before.ensures _ c.find_best-looked.ensures)

pub overflow_cast-before : goal.overflow_cast-before
overflow_cast-before c = omega (arith, both_few _ _ _ c.quotes_before-before.ensures _ c.find_best-looked.ensures)

pub returns : goal.returns
returns c =
    let b = c.put_before-start.ensures in
    let u = c.add_born-middle.ensures in
    let v = c.add_born-end.ensures in
    let w = c.add_read.ensures in
    let r = whole_found _ _ _ c.quotes_before-before.ensures _ c.find_best-looked.ensures c.if-looked-ne0.false _ _ _ _ _ _ _ _ _ (b.0, b.1) (u.0, u.1) (v.0, v.1) (w.0, w.1) in
    (r.0, r.1, omega arith)
