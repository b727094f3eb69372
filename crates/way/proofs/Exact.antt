-- Each callable function's promise, as Rattle reads it from the contract, allows one result.
use mathlib.Core.Path.{sym, ◌∙◌}
use Rattle.wire.specs.Exact.{Exact}
use Rattle.way.proofs.is_trade_date.Reads as is_trade_date
use Rattle.way.proofs.is_next_day.Reads as is_next_day
use Rattle.way.proofs.no_later.Reads as no_later
use Rattle.way.proofs.within.Reads as within
use Rattle.way.proofs.obvious_time.Reads as obvious_time
use Rattle.way.proofs.find_way.Reads as find_way

pub is_trade_date_exact : Exact (is_trade_date.Post tt)
is_trade_date_exact a e e' r r' p q = p ∙ sym q

pub is_next_day_exact : Exact (is_next_day.Post tt)
is_next_day_exact a e e' r r' p q = p ∙ sym q

pub no_later_exact : Exact (no_later.Post tt)
no_later_exact a e e' r r' p q = p ∙ sym q

pub within_exact : Exact (within.Post tt)
within_exact a e e' r r' p q = p ∙ sym q

pub obvious_time_exact : Exact (obvious_time.Post tt)
obvious_time_exact a e e' r r' p q = p ∙ sym q

pub find_way_exact : Exact (find_way.Post tt)
find_way_exact a e e' r r' p q = p ∙ sym q
