-- `copy_from_slice` writes the whole word into the part from the place on.
use native.Mathlib.Omega.{arith}
use mathlib.Core.Path.{refl}
use Rattle.text.proofs.Placed.{copied_at}
use Rattle.text.proofs.add_word.Goals as goal

pub returns : goal.returns
returns c = (refl, copied_at _ _ _ _ _ (omega arith) (omega arith) c.copy_from_slice.ensures.after)
