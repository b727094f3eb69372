use borrow.Author.Tests.{ne_eqb}
use Rattle.lines.specs.Lines.{outcome_word}
use native.Mathlib.Omega.{arith}
use Rattle.lines.proofs.add_outcome.Goals as goal

pub returns-in-0 : goal.returns-in-0
unfolding outcome_word
returns-in-0 c = let w = c.add_word.ensures in rw c.in-0.is (w.0, w.1, omega (arith, w.0))

pub returns-in-1 : goal.returns-in-1
unfolding outcome_word
returns-in-1 c = let w = c.add_word-in-1.ensures in rw c.in-1.is (w.0, w.1, omega (arith, w.0))

pub returns-in-2 : goal.returns-in-2
unfolding outcome_word
returns-in-2 c = let w = c.add_word-in-2.ensures in rw c.in-2.is (w.0, w.1, omega (arith, w.0))

pub returns-in_default : goal.returns-in_default
unfolding outcome_word
returns-in_default c = let w = c.add_word-in_default.ensures in let m = c.in_default.in_default-own.rest in simp (ne_eqb _ 0 m.0.0.1, ne_eqb _ 1 m.0.1, ne_eqb _ 2 m.1) (w.0, w.1, omega (arith, w.0))
