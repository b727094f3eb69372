use Rattle.act.specs.Act.{opening_act}
use Rattle.act.proofs.opening_act.Goals as goal

pub returns-in-true-true : goal.returns-in-true-true
unfolding opening_act
returns-in-true-true c = simp (c.in-true-true.is-0, c.in-true-true.is-1)

pub returns-in-true-false : goal.returns-in-true-false
unfolding opening_act
returns-in-true-false c = simp (c.in-true-false.is-0, c.in-true-false.is-1)

pub returns-in-false-default : goal.returns-in-false-default
unfolding opening_act
returns-in-false-default c = simp c.in-false-default.is-0
