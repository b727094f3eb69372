use Rattle.record.proofs.Read.{party_read}
use Rattle.record.proofs.party_at.Goals as goal

pub returns : goal.returns
returns c = party_read _ _ _
    c.code_at.ensures
    c.read_u32.ensures
    c.price_of.ensures.0
    c.from_byte.ensures.0
