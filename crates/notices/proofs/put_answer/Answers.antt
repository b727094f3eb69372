use mathlib.Core.Path.{refl}
use mathlib.Core.List.{◌++◌}
use Rattle.wire.specs.Numbers.{bytes}
use Rattle.wire.proofs.Laid.{laid_part}
use Rattle.notices.specs.Words.{Buy, Sell}
use Rattle.notices.specs.Records.{ruling_record, notice_record, answer_records}
use Rattle.notices.proofs.put_answer.Goals as goal

pub returns : goal.returns
unfolding answer_records ruling_record notice_record
returns c = let a = c.args in let r = ruling_record a.n in
    let b = notice_record a.n Buy (bytes 4 a.buyer) (bytes 4 a.seller) in
    let s = notice_record a.n Sell (bytes 4 a.seller) (bytes 4 a.buyer) in
    let o = a.out.now in
    laid_part (r ++ b) s o _ c.put_notice-2.new.out 64
    (laid_part r b o c.put_ruling.new.out c.put_notice.new.out 32 c.put_ruling.ensures refl c.put_notice.ensures)
    refl
    c.put_notice-2.ensures
