use Rattle.reasons.specs.Reasons.{reason_outcome}
use Rattle.wire.specs.Tests.{in_range}
use Rattle.wire.proofs.Tests.{ranges, range_low, range_high}
use native.Mathlib.Omega.{arith}
use borrow.Author.Tests.{ne_eqb}
use Rattle.reasons.proofs.outcome_of.Goals as goal

pub returns-in-14 : goal.returns-in-14
unfolding reason_outcome in_range
returns-in-14 c = rw c.in-14.is

pub returns-in-1-to-5 : goal.returns-in-1-to-5
unfolding reason_outcome
returns-in-1-to-5 c = search ranges

pub returns-in-6-to-10 : goal.returns-in-6-to-10
unfolding reason_outcome
returns-in-6-to-10 c = search ranges

pub returns-in-11-to-13 : goal.returns-in-11-to-13
unfolding reason_outcome
returns-in-11-to-13 c = search ranges

pub returns-in_default : goal.returns-in_default
unfolding reason_outcome
returns-in_default c = let r = c.args.reason in simp (range_low 1 5 r (omega arith), range_low 6 10 r (omega arith), range_low 11 13 r (omega arith), ne_eqb r 14 c.in_default.in_default-own.rest.1)

pub returns-in_default-2 : goal.returns-in_default-2
unfolding reason_outcome
returns-in_default-2 c = let r = c.args.reason in simp (range_high 1 5 r (omega arith), range_high 6 10 r (omega arith), range_high 11 13 r (omega arith), ne_eqb r 14 c.in_default.in_default-own.rest.1)
