use Rattle.agreement.specs.Agreed.{may_nullify}
use Rattle.agreement.proofs.may_nullify.Goals as goal

pub returns : goal.returns
unfolding may_nullify
returns c = cc
