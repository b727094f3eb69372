use native.Mathlib.Nat.{add-zero}
use Rattle.refusals.specs.Tests.{code_ok}
use Rattle.faults.proofs.code_at.Goals as goal

pub returns : goal.returns
unfolding code_ok
returns c = simp add-zero c.bytes_ok.ensures
