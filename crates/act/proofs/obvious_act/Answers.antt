use Rattle.act.specs.Act.{obvious_act}
use Rattle.act.proofs.obvious_act.Goals as goal

pub returns-then-customer : goal.returns-then-customer
unfolding obvious_act
returns-then-customer c = simp c.if-customer.true

pub returns : goal.returns
unfolding obvious_act
returns c = simp c.if-customer.false
