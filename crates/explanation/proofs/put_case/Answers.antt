use native.Mathlib.Omega.{arith}
use mathlib.Core.Path.{refl, sym, ◌∙◌}
use Rattle.wire.proofs.Laid.{laid_none}
use Rattle.explanation.proofs.Told.{asked, not_asked}
use Rattle.explanation.proofs.put_case.Goals as goal

pub returns-then-is_wanted : goal.returns-then-is_wanted
returns-then-is_wanted c = let w = c.put_indexed.ensures in let a = c.args in let e = asked a.want a.index a.case.now (sym c.is_wanted.ensures ∙ c.if-is_wanted.true) in
    rw e w

pub returns : goal.returns
returns c = let a = c.args in let e = not_asked a.want a.index a.case.now (sym c.is_wanted.ensures ∙ c.if-is_wanted.false) in
    rw e (refl, laid_none _, omega arith)
