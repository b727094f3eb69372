use Rattle.agreement.specs.Agreed.{in_time}
use Rattle.agreement.proofs.in_time.Goals as goal

pub returns : goal.returns
unfolding in_time
returns c = simp (c.no_later.ensures, c.agreement_time.ensures)
