use borrow.Author.Tests.{ne_eqb}
use native.Mathlib.Omega.{arith}
use Rattle.text.proofs.Placed.{ran_first}
use Rattle.fill_report.specs.Told.{owner_word}
use Rattle.fill_report.proofs.put_owner.Goals as goal

pub returns-then-number-eq10 : goal.returns-then-number-eq10
unfolding owner_word
returns-then-number-eq10 c = let w = c.add_word.ensures in let r = ran_first _ _ _ _ w.0 w.1 in
    rw c.if-number-eq10.true (r.0, r.1, omega (arith, w.0))

pub returns : goal.returns
unfolding owner_word
returns c = let w = c.add_word-2.ensures in let r = ran_first _ _ _ _ w.0 w.1 in
    simp (ne_eqb _ 10 c.if-number-eq10.false) (r.0, r.1, omega (arith, w.0))
