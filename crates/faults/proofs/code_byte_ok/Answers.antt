use native.Mathlib.Omega.{arith}
use Rattle.wire.proofs.Tests.{range_in, range_low, range_high}
use Rattle.refusals.specs.Tests.{code_byte_ok}
use Rattle.faults.proofs.code_byte_ok.Goals as goal

pub returns-in-65-to-90 : goal.returns-in-65-to-90
unfolding code_byte_ok
returns-in-65-to-90 c = let b = c.args.b in
    simp (range_low 65 90 b (omega arith), range_in 48 57 b (omega arith) (omega arith))

pub returns-in-65-to-90-2 : goal.returns-in-65-to-90-2
unfolding code_byte_ok
returns-in-65-to-90-2 c = let b = c.args.b in simp (range_in 65 90 b (omega arith) (omega arith))

pub returns-in_default : goal.returns-in_default
unfolding code_byte_ok
returns-in_default c = let b = c.args.b in simp (range_low 65 90 b (omega arith), range_low 48 57 b (omega arith))

pub returns-in_default-2 : goal.returns-in_default-2
unfolding code_byte_ok
returns-in_default-2 c = let b = c.args.b in simp (range_low 65 90 b (omega arith), range_high 48 57 b (omega arith))

pub returns-in_default-3 : goal.returns-in_default-3
unfolding code_byte_ok
returns-in_default-3 c = let b = c.args.b in simp (range_high 65 90 b (omega arith), range_high 48 57 b (omega arith))
