use mathlib.Core.Path.{sym, ap, ◌∙◌}
use native.Mathlib.Omega.{arith}
use Rattle.sheet.proofs.Turns.{whole_few}
use Rattle.lines.proofs.Lengths.{sheet_most}
use Rattle.report.specs.Report.{ruled_text}
use Rattle.report.proofs.Lines.{text_whole, text_refused, printed}
use Rattle.report.proofs.print_sheet.Goals as goal

pub put_whole-requires : goal.put_whole-requires
put_whole-requires c = let k = c.whole_cases-c.ensures in (k.1, rw k.1 (whole_few _ (sym k.0 ∙ c.if-c.true)), omega arith)

pub returns-then-c : goal.returns-then-c
returns-then-c c = let s = c.args.sheet.now in let k = c.whole_cases-c.ensures in let p = printed _ _ _ _ _ (text_whole s (sym k.0 ∙ c.if-c.true) ∙ ap (ruled_text s) (sym k.1)) (c.put_whole.ensures.0, c.put_whole.ensures.1) (omega (arith, c.put_whole.ensures.0, c.put_whole.ensures.2)) in
    record { value = p.0; upper_bound = p.1 }

pub returns : goal.returns
returns c =
    let p = printed _ _ _ _ _ (text_refused _ (sym c.whole_cases-c.ensures.0 ∙ c.if-c.false)) c.put_sheet.ensures (omega (arith, sheet_most 10)) in
    record { value = p.0; upper_bound = p.1 }
