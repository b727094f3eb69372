use Rattle.record.proofs.Read.{market_read}
use Rattle.record.proofs.market_of.Goals as goal

pub returns : goal.returns
returns c = market_read _
    c.read_u32.ensures
    c.price_of.ensures.0
    c.read_u32-2.ensures
    c.read_u32-3.ensures
    c.price_of-2.ensures.0
    c.read_u32-4.ensures
    c.read_u32-5.ensures
    c.price_of-3.ensures.0
