use Rattle.quotes.proofs.Sides.{bad_exchange, bad_time, bad_bid, offer_tells}
use Rattle.quotes.proofs.fields_ok.Goals as goal

pub returns-then-not-exchange : goal.returns-then-not-exchange
returns-then-not-exchange c = bad_exchange _ _ _ c.read_u32-exchange.ensures c.if-not-exchange.true

pub returns-then-read_u32-gt86399 : goal.returns-then-read_u32-gt86399
returns-then-read_u32-gt86399 c = bad_time _ _ _ c.read_u32-exchange.ensures c.if-not-exchange.false _ c.read_u32.ensures c.if-read_u32-gt86399.true

pub returns-then-not-side_ok : goal.returns-then-not-side_ok
returns-then-not-side_ok c = bad_bid _ _ _ c.read_u32-exchange.ensures c.if-not-exchange.false _ c.read_u32.ensures c.if-read_u32-gt86399.false _ _ c.read_u32-2.ensures c.read_u32-3.ensures _
    c.side_ok.ensures c.if-not-side_ok.true

pub returns : goal.returns
returns c = offer_tells _ _ _ c.read_u32-exchange.ensures c.if-not-exchange.false _ c.read_u32.ensures c.if-read_u32-gt86399.false _ _ c.read_u32-2.ensures c.read_u32-3.ensures _
    c.side_ok.ensures c.if-not-side_ok.false _ _ c.read_u32-4.ensures c.read_u32-5.ensures _ c.side_ok-2.ensures
