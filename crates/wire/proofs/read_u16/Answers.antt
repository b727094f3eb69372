use Rattle.std.proofs.Common.{arith, add-zero}
use Rattle.wire.specs.Numbers.{number_at}
use Rattle.wire.proofs.read_u16.Goals as goal

pub returns : goal.returns
unfolding number_at
returns c = simp add-zero (omega (arith, c.from_le_bytes.ensures))
