use native.Mathlib.Omega.{arith}
use mathlib.Core.Path.{sym, ◌∙◌}
use Rattle.sheet.proofs.Turns.{whole_few}
use Rattle.explanation.proofs.Told.{pieces_whole, pieces_refused}
use Rattle.explanation.proofs.count_pieces.Goals as goal

pub overflow_add-result : goal.overflow_add-result
overflow_add-result c = let k = c.whole_cases-c.ensures in let few = whole_few _ (sym k.0 ∙ c.if-c.true) in
    omega (arith, k.1, few)

pub returns-then-c : goal.returns-then-c
returns-then-c c = let k = c.whole_cases-c.ensures in let h = sym k.0 ∙ c.if-c.true in
    (simp k.1 (sym (pieces_whole _ h)), omega (arith, k.1, whole_few _ h))

pub returns : goal.returns
returns c = let h = sym c.whole_cases-c.ensures.0 ∙ c.if-c.false in
    (sym (pieces_refused _ h), omega arith)
