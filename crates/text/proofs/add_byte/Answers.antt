use mathlib.Core.Path.{refl}
use native.Mathlib.Omega.{arith}
use Rattle.text.proofs.Placed.{set_first}
use Rattle.text.proofs.add_byte.Goals as goal

pub returns : goal.returns
returns c = (refl, set_first _ _ _ (omega arith))
