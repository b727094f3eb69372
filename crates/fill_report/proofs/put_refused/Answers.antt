use native.Mathlib.Omega.{arith}
use Rattle.text.proofs.Placed.{ran_next}
use Rattle.fill_report.proofs.put_refused.Goals as goal

pub returns : goal.returns
returns c = let w = c.put_owner-owner.ensures in let r = ran_next _ _ _ _ _ _ _ (w.0, w.1) c.add_refusal.ensures.0 c.add_refusal.ensures.1 in
    (r.0, r.1, omega arith)
