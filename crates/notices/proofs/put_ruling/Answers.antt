use Rattle.notices.proofs.Built.{ruling_written}
use Rattle.notices.proofs.put_ruling.Goals as goal

pub returns : goal.returns
returns c = ruling_written _ c.args.out.now c.requires c.put_head.ensures c.put_ruled.ensures
