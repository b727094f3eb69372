use Rattle.quotes.proofs.Sides.{no_length, kind_tells}
use Rattle.quotes.proofs.is_quote.Goals as goal

pub returns-then-read_u16-ne28 : goal.returns-then-read_u16-ne28
returns-then-read_u16-ne28 c = no_length _ _ _ c.read_u16.ensures c.if-read_u16-ne28.true

pub returns : goal.returns
returns c = kind_tells _ _ _ c.read_u16.ensures c.if-read_u16-ne28.false _ c.read_u16-2.ensures
