use Prim.Native.Nat.{ℕ}
use mathlib.Core.Path.{ap₂}
use mathlib.Core.Bool.{◌&&◌}
use lib.Dec.{eqb}
use Rattle.refusals.specs.Tests.{zeros_ok}
use Rattle.refusals.proofs.zeros_ok.Goals as goal

pub returns : goal.returns
unfolding zeros_ok
returns c = ap₂ (λ (first second : ℕ). eqb first 0 && eqb second 0) c.read_u32-first.ensures c.read_u32-second.ensures
