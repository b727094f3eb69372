use Rattle.filling.proofs.Answers.{case_fails, quotes_fail, fills}
use Rattle.record.specs.Record.{facts_of}
use Rattle.cases.proofs.Laws.{passed_whole}
use native.Mathlib.Omega.{arith}
use mathlib.Core.Path.{sym, ◌∙◌}
use Rattle.filling.proofs.fill_case.Goals as goal

pub returns-then-number-ne0 : goal.returns-then-number-ne0
returns-then-number-ne0 c = case_fails _ _ _ c.check_case-number.ensures c.if-number-ne0.true

pub trade_of-requires : goal.trade_of-requires
trade_of-requires c = passed_whole _ (sym c.check_case-number.ensures ∙ c.if-number-ne0.false)

pub returns-then-found-ne0 : goal.returns-then-found-ne0
unfolding facts_of
returns-then-found-ne0 c = quotes_fail _ _ _ c.check_case-number.ensures c.if-number-ne0.false _ c.trade_of.ensures _ c.count_and_find.ensures c.if-found-ne0.true

pub put_quotes-requires : goal.put_quotes-requires
put_quotes-requires c = let whole = passed_whole _ (sym c.check_case-number.ensures ∙ c.if-number-ne0.false) in
    omega arith

pub returns : goal.returns
unfolding facts_of
returns c = let ended = fills _ _ _ c.check_case-number.ensures c.if-number-ne0.false _ c.trade_of.ensures _ c.count_and_find.ensures c.if-found-ne0.false in
    (ended.0, c.put_quotes.ensures ∙ ended.1)
