use Rattle.refusals.specs.Tests.{code_ok}
use Rattle.faults.proofs.code_ok.Goals as goal

pub returns : goal.returns
unfolding code_ok
returns c = c.bytes_ok.ensures
