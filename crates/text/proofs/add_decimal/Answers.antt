use Prim.Native.Nat.{◌/◌}
use native.Mathlib.Omega.{arith}
use lib.ListN.{length-set}
use Rattle.text.specs.Text.{decimal_of}
use Rattle.text.proofs.Placed.{set_first, set_before}
use Rattle.text.proofs.Decimal.{decimal_one, decimal_more, more_long, decimal_length}
use Rattle.text.proofs.add_decimal.Goals as goal

pub overflow_sub-place : goal.overflow_sub-place
overflow_sub-place c = omega (arith, decimal_length c.loop-rest.rest)

pub bounds-out-place : goal.bounds-out-place
bounds-out-place c = omega (arith, decimal_length c.loop-rest.rest)

pub loop-rest-preserved : goal.loop-rest-preserved
loop-rest-preserved c = let rest = c.loop-rest.rest in let more = c.loop-rest-test.true in let longer = more_long rest more (omega arith) in
    let m = decimal_length rest in (
      rw (← c.loop-rest.invariant.0, decimal_more rest more (omega arith)) (set_before _ _ _ (decimal_of (rest / 10)) _ (omega arith) (omega arith)),
      omega arith,
      omega arith,
      simp length-set (omega arith),
    )

pub returns : goal.returns
returns c = (
  omega arith,
  rw (← c.loop-rest.invariant.0, decimal_one c.loop-rest.rest c.loop-rest-test.false) (set_first _ _ _ (omega arith)),
  omega arith,
)
