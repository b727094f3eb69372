use Rattle.record.proofs.Read.{trade_read}
use Rattle.record.proofs.trade_of.Goals as goal

pub returns : goal.returns
returns c = trade_read _
    c.read_u32.ensures
    c.read_u32-2.ensures
    c.read_u32-3.ensures
    c.read_u32-4.ensures
