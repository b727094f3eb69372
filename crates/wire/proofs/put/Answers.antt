use native.Mathlib.Omega.{arith}
use Rattle.wire.proofs.Stored.{copied_at}
use Rattle.wire.proofs.put.Goals as goal

pub returns : goal.returns
returns g c = copied_at _ _ _ _ _ (omega (arith, c.requires)) (omega arith) c.copy_from_slice.ensures.after
