use Rattle.record.proofs.Read.{settlement_read}
use Rattle.record.proofs.settlement_of.Goals as goal

pub returns : goal.returns
returns c = settlement_read _
    c.from_byte.ensures.0
    c.read_u32.ensures
    c.price_of.ensures.0
    c.read_u32-2.ensures
    c.read_u32-3.ensures
    c.moment_of.ensures.0
