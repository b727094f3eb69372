use Rattle.record.proofs.Read.{request_read}
use Rattle.record.proofs.request_of.Goals as goal

pub returns : goal.returns
returns c = request_read _
    c.from_byte.ensures.0
    c.from_byte-2.ensures.0
    c.from_byte-3.ensures.0
    c.from_byte-4.ensures.0
    c.from_byte-5.ensures.0
    c.read_u32.ensures
