use Rattle.facts.specs.Numbers.{price_number}
use Rattle.wire.specs.Numbers.{bytes}
use Rattle.filling.specs.Filling.{filled}
use Rattle.wire.proofs.Stored.{next, number_given}
use Rattle.filling.proofs.put_quotes.Goals as goal

pub returns : goal.returns
unfolding filled
returns c = let a = c.args in next 32 (bytes 4 a.offer.size.0) c.put_u32-4.ensures
    (next 28 (bytes 4 a.bid.size.0) c.put_u32-3.ensures
    (next 24 (bytes 4 (price_number a.offer.price)) (number_given 24 c.put_u32.new.out c.put_u32-2.ensures c.price_number-2.ensures)
    (number_given 20 a.case.now c.put_u32.ensures c.price_number.ensures)))
