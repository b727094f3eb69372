use native.Mathlib.Omega.{arith}
use mathlib.Core.Path.{refl}
use Rattle.text.proofs.Placed.{ran_first}
use Rattle.report.proofs.Lines.{printed}
use Rattle.explanation.proofs.explain_case.Goals as goal

pub returns : goal.returns
returns c = let w = c.add_case.ensures in let p = printed _ _ _ _ _ refl (ran_first _ _ _ _ w.0 w.1) (omega (arith, w.0, w.2)) in
    record { value = p.0; upper_bound = p.1 }
