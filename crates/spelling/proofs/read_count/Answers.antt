use mathlib.Core.Path.{sym, ◌∙◌}
use native.Mathlib.Omega.{arith}
use borrow.Author.Tests.{eqb-true, eqb-false}
use Rattle.wire.specs.Tests.{in_range}
use Rattle.spelling.proofs.Digits.{count_empty, count_whole, count_end, count_on, count_off}
use Rattle.spelling.proofs.read_count.Goals as goal

pub returns-then-is_empty : goal.returns-then-is_empty
returns-then-is_empty c = count_empty _ (eqb-true _ 0 (sym c.is_empty.ensures ∙ c.if-is_empty.true))

pub returns-then-not-is_ascii_digit : goal.returns-then-not-is_ascii_digit
unfolding in_range
returns-then-not-is_ascii_digit c =
    count_off _ c.loop-b.b-index _ (omega arith) (sym c.is_ascii_digit.ensures.value ∙ c.if-not-is_ascii_digit.true)
    ∙ c.loop-b.invariant.1
    ∙ count_whole _ (eqb-false _ 0 (sym c.is_empty.ensures ∙ c.if-is_empty.false))

pub loop-b-preserved : goal.loop-b-preserved
unfolding in_range
loop-b-preserved c = (
  omega arith,
  rw (c.push-n.ensures) (count_on _ c.loop-b.b-index _ (omega arith) (sym c.is_ascii_digit.ensures.value ∙ c.if-not-is_ascii_digit.false))
      ∙ c.loop-b.invariant.1,
)

pub returns : goal.returns
returns c =
    count_end _ c.loop-b.b-index _ (omega arith) (omega arith)
    ∙ c.loop-b.invariant.1
    ∙ count_whole _ (eqb-false _ 0 (sym c.is_empty.ensures ∙ c.if-is_empty.false))
