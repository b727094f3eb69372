-- Tests of the filing day and of times (RULE R4.1 to R4.3). A time is counted in seconds from midnight or from notice; what is compared is of one sort.
use Rattle.std.specs.Prelude.{◌+◌, Bool, true, false, leb}
use Rattle.way.specs.Words.{Seconds, Day, TradeDate, NextDay, Later}

abbrev pub is_trade_date : Day → Bool
is_trade_date TradeDate = true
is_trade_date NextDay = false
is_trade_date Later = false

abbrev pub is_next_day : Day → Bool
is_next_day TradeDate = false
is_next_day NextDay = true
is_next_day Later = false

-- at the deadline or before it
abbrev pub no_later : Seconds → Seconds → Bool
no_later t by = leb t.0 by.0

-- at most so many seconds after the start; a time before the start is within any number of them
abbrev pub within : Seconds → Seconds → Seconds → Bool
within count start t = leb t.0 (start.0 + count.0)
