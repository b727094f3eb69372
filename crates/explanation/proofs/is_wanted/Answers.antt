use native.Mathlib.Omega.{arith}
use Rattle.forms.proofs.Heads.{known_size}
use Rattle.explanation.proofs.is_wanted.Goals as goal

pub read_u32-requires : goal.read_u32-requires
read_u32-requires c = let h = c.requires in omega (arith, h.long, known_size _ _ h.pair)
