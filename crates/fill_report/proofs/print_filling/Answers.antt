use mathlib.Core.Path.{sym, ap, ◌∙◌}
use native.Mathlib.Omega.{arith}
use Rattle.sheet.proofs.Turns.{whole_few}
use Rattle.fillings.proofs.Laws.{whole_first}
use Rattle.fill_report.specs.Told.{cases_text}
use Rattle.fill_report.proofs.Lines.{text_filled, text_refused, said}
use Rattle.fill_report.proofs.print_filling.Goals as goal

pub put_whole-requires : goal.put_whole-requires
put_whole-requires c = let k = c.count_cases-c.ensures.1 in (k, rw k (whole_few _ (whole_first _ _ (sym c.check_filling-number.ensures ∙ c.if-number-eq0.true))), omega arith)

pub returns-then-number-eq0 : goal.returns-then-number-eq0
returns-then-number-eq0 c = let k = c.count_cases-c.ensures.1 in let w = c.put_whole.ensures in let a = c.args in let p = said _ _ _ _ _
    (text_filled a.quotes.now a.sheet.now _ c.check_filling-number.ensures c.if-number-eq0.true ∙ ap (cases_text a.quotes.now a.sheet.now) (sym k))
    w.0 w.1 (omega (arith, w.0, w.2)) in
    record { value = p.0; upper_bound = p.1 }

pub returns : goal.returns
returns c = let w = c.put_refused.ensures in
    let p = said _ _ _ _ _ (text_refused _ _ _ c.check_filling-number.ensures c.if-number-eq0.false) w.0 w.1 (omega (arith, w.0, w.2)) in
    record { value = p.0; upper_bound = p.1 }
