-- The way of a request (RULE R4): the first that is open by time decides, and no other is tried.
-- The 300 s and 1,200 s are those of document 003 (a)(3)(A), 16:30:00 that of document 000, struck (a)(3)(C) and (D), the catastrophic
-- times those of document 000, struck (d)(3)(A).
use Rattle.std.specs.Prelude.{Bool, not, ◌&&◌, ◌||◌}
use Rattle.wire.specs.Tests.{pick}
use Rattle.facts.specs.Numbers.{seconds}
use Rattle.way.specs.Words.{Seconds, Request, Kind, Customer, MarketMaker, Other, Day, Obvious, Opening, Catastrophic, Open, Some, None}
use Rattle.parties.specs.Parties.{is_customer}
use Rattle.way.specs.Times.{is_trade_date, is_next_day, no_later, within}

-- A Market Maker in error has 300 s from execution for the obvious way, anyone else 1,200 s (RULE R4.1).
abbrev pub obvious_time : Kind → Seconds
obvious_time Customer = seconds 1200
obvious_time MarketMaker = seconds 300
obvious_time Other = seconds 1200

-- The opening way opens once 1,200 s have passed, and is open up to 16:30:00 (RULE R4.2); the catastrophic way up to 17:00:00 under the
-- expiry deadline, and without it on the next day up to 8:30:00 (RULE R4.3).
abbrev pub opening_after : Seconds
opening_after = seconds 1200

abbrev pub opening_by : Seconds
opening_by = seconds 59400

abbrev pub expiry_by : Seconds
expiry_by = seconds 61200

abbrev pub next_day_by : Seconds
next_day_by = seconds 30600

-- Obvious: on day 0, and within that time (RULE R4.1).
unfoldable pub obvious_open : Day → Seconds → Seconds → Kind → Bool
obvious_open day executed filed kind = is_trade_date day && within (obvious_time kind) executed filed

-- Opening: on day 0, of an opening trade, with a Customer in error, more than 1,200 s after execution, up to 16:30:00 (RULE R4.2).
unfoldable pub opening_open : Day → Bool → Seconds → Seconds → Kind → Bool
opening_open day opening executed filed kind =
    is_trade_date day && opening && is_customer kind && not (within opening_after executed filed) && no_later filed opening_by

-- Catastrophic: under the expiry deadline of byte 46 on day 0 up to 17:00:00; without it on all of day 0, and on day 1 up to 8:30:00
-- (RULE R4.3).
unfoldable pub catastrophic_open : Day → Bool → Seconds → Bool
catastrophic_open day expiry filed =
    pick expiry (is_trade_date day && no_later filed expiry_by) (is_trade_date day || is_next_day day && no_later filed next_day_by)

-- The first one open, in this order (RULE R4.0).
abbrev pub first_open : Bool → Bool → Bool → Open
first_open obvious opening catastrophic = pick obvious (Some Obvious) (pick opening (Some Opening) (pick catastrophic (Some Catastrophic) None))

-- The way of a request. A Market Maker past 300 s is not late: the catastrophic way may be open to it (RULE R4.6).
unfoldable pub way_of : Seconds → Request → Kind → Open
way_of executed q kind =
    first_open
    (obvious_open q.day executed q.filed kind)
    (opening_open q.day q.opening executed q.filed kind)
    (catastrophic_open q.day q.expiry q.filed)
