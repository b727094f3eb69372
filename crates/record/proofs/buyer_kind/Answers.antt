use Rattle.record.specs.Record.{party_at}
use Rattle.record.proofs.buyer_kind.Goals as goal

pub returns : goal.returns
unfolding party_at
returns c = c.from_byte.ensures.0
