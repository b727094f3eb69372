use Rattle.notices.proofs.Built.{notice_written}
use Rattle.notices.proofs.put_notice.Goals as goal

pub returns : goal.returns
returns c = notice_written _ c.args.out.now c.requires _ _ _ c.byte.ensures c.put_head.ensures c.put_told.ensures c.put_codes.ensures
