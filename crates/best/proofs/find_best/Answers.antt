use Rattle.best.proofs.Answers.{looked_refused, looked_wrong, looked}
use Rattle.earlier.proofs.Number.{counted_within}
use Rattle.quotes.proofs.Accepted.{all_ok_lem, all_rising}
use mathlib.Core.Path.{sym, ◌∙◌}
use Rattle.best.proofs.find_best.Goals as goal

pub returns-then-number-ne0 : goal.returns-then-number-ne0
returns-then-number-ne0 c = c.refuse.ensures ∙ looked_refused _ _ _ _ c.check_quotes-number.ensures c.if-number-ne0.true

pub number_ok-requires : goal.number_ok-requires
number_ok-requires c = all_rising _ _ (sym c.check_quotes-number.ensures ∙ c.if-number-ne0.false)

pub returns-then-not-number_ok : goal.returns-then-not-number_ok
returns-then-not-number_ok c = c.refuse-then-not-number_ok.ensures ∙ looked_wrong _ _ _ (sym c.check_quotes-number.ensures ∙ c.if-number-ne0.false) (sym c.number_ok.ensures ∙ c.if-not-number_ok.true)

pub answer-requires : goal.answer-requires
answer-requires c = let h = sym c.check_quotes-number.ensures ∙ c.if-number-ne0.false in
    (counted_within _ _ (all_rising _ _ h) _ (sym c.number_ok.ensures ∙ c.if-not-number_ok.false), all_ok_lem _ _ h)

pub returns : goal.returns
returns c = c.answer.ensures ∙ looked _ _ _ (sym c.check_quotes-number.ensures ∙ c.if-number-ne0.false) (sym c.number_ok.ensures ∙ c.if-not-number_ok.false)
