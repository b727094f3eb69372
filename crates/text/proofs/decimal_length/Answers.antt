use native.Mathlib.Omega.{arith}
use Rattle.text.proofs.Decimal.{one_long, more_long, decimal_length}
use Rattle.text.proofs.decimal_length.Goals as goal

pub overflow_add-digits : goal.overflow_add-digits
overflow_add-digits c = omega (arith, decimal_length c.args.n)

pub loop-n-preserved : goal.loop-n-preserved
loop-n-preserved c = let more = more_long c.loop-n.n c.loop-n-test.true (omega arith) in
    (omega arith, omega arith)

pub returns : goal.returns
returns c = let last = one_long c.loop-n.n c.loop-n-test.false in
    (omega arith, omega (arith, decimal_length c.args.n))
