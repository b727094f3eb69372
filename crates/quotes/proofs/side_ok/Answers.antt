use Rattle.quotes.proofs.Sides.{side_priced, side_zero, side_none}
use Rattle.quotes.proofs.side_ok.Goals as goal

pub returns-then-price : goal.returns-then-price
returns-then-price c = side_priced _ _ c.if-price.true

pub returns-then-price-eq0 : goal.returns-then-price-eq0
returns-then-price-eq0 c = side_zero _ _ c.if-price-eq0.true

pub returns : goal.returns
returns c = side_none _ _ c.if-price.false c.if-price-eq0.false
