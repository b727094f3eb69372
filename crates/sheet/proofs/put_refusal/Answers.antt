use Rattle.wire.specs.Numbers.{bytes}
use Rattle.wire.proofs.Stored.{next}
use Rattle.wire.proofs.Laid.{stores}
use Rattle.sheet.specs.Sheet.{refusal_bytes}
use Rattle.sheet.proofs.put_refusal.Goals as goal

pub returns : goal.returns
unfolding refusal_bytes
returns c = stores c.put_u16-4.new.out (refusal_bytes c.args.index c.args.number) c.args.out.now
    (next 10 (bytes 2 0) c.put_u16-4.ensures
    (next 8 (bytes 2 c.args.number) c.put_u16-3.ensures
    (next 4 (bytes 4 c.args.index) c.put_u32.ensures
    (next 2 (bytes 2 18) c.put_u16-2.ensures
    c.put_u16.ensures))))
    c.requires
