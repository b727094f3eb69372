use Rattle.best.proofs.Answers.{looked_refused, right_number, looked_own}
use Rattle.earlier.proofs.Number.{counted_within}
use Rattle.quotes.proofs.Accepted.{all_ok_lem, all_rising}
use mathlib.Core.Path.{sym, ◌∙◌}
use Rattle.best.proofs.count_and_find.Goals as goal

pub returns-then-number-ne0 : goal.returns-then-number-ne0
returns-then-number-ne0 c = c.refuse.ensures ∙ looked_refused _ _ _ _ c.check_quotes-number.ensures c.if-number-ne0.true

pub count_before-requires : goal.count_before-requires
count_before-requires c = all_rising _ _ (sym c.check_quotes-number.ensures ∙ c.if-number-ne0.false)

pub answer-requires : goal.answer-requires
answer-requires c = let h = sym c.check_quotes-number.ensures ∙ c.if-number-ne0.false in
    (counted_within _ _ (all_rising _ _ h) _ (right_number _ _ h _ c.count_before.ensures), all_ok_lem _ _ h)

pub returns : goal.returns
returns c = c.answer.ensures ∙ looked_own _ _ (sym c.check_quotes-number.ensures ∙ c.if-number-ne0.false) _ c.count_before.ensures
