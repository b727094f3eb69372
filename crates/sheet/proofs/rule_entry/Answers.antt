use mathlib.Core.Path.{sym, ◌∙◌}
use native.Mathlib.Omega.{arith}
use Rattle.cases.proofs.Laws.{passed_whole}
use Rattle.answer.proofs.Written.{answered}
use Rattle.sheet.proofs.Entries.{enter_ruled, enter_refused}
use Rattle.sheet.proofs.rule_entry.Goals as goal

pub judge-f-requires : goal.judge-f-requires
judge-f-requires c = passed_whole _ (sym c.check_known-n.ensures ∙ c.if-n-eq0.true)

pub read_u32-requires : goal.read_u32-requires
read_u32-requires c = omega (arith, passed_whole _ (sym c.check_known-n.ensures ∙ c.if-n-eq0.true))

pub read_u32-requires-then-n-eq0 : goal.read_u32-requires-then-n-eq0
read_u32-requires-then-n-eq0 c = omega (arith, passed_whole _ (sym c.check_known-n.ensures ∙ c.if-n-eq0.true))

pub returns-then-n-eq0 : goal.returns-then-n-eq0
returns-then-n-eq0 c = enter_ruled _ _ _ _ _ c.check_known-n.ensures c.if-n-eq0.true
    (answered _ _ _ _ _ _ (λ i. (c.type_inv.case i).fits) c.judge-f.ensures c.read_u32.ensures c.read_u32-then-n-eq0.ensures c.put_answer.ensures)

pub returns : goal.returns
returns c = enter_refused _ _ _ _ _ c.check_known-n.ensures c.if-n-eq0.false c.put_refusal.ensures
