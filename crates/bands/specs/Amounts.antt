-- The amounts measured from TP (RULE R6.1, R8.2.1 and R8.4.1).
use Rattle.std.specs.Prelude.{ℕ, ◌+◌, ◌-◌, min, Bool, leb, ltb}
use Rattle.wire.specs.Tests.{pick}
use Rattle.bands.specs.Words.{Mills, mills, Side, Buy, Sell}

-- An obvious error moves TP by .15 where TP is below $3, by .30 from there on (RULE R8.2.1; document 000, struck (a)(3)(A)).
unfoldable pub obvious_adjustment_of : Mills → Mills
obvious_adjustment_of tp = pick (ltb tp.0 3000) (mills 150) (mills 300)

-- A buy is in error that cost at least the minimum more than TP, a sell that brought at least the minimum less (RULE R6.1;
-- document 000, struck Commentary .02). The distance has a direction: a buy far below TP is no error (RULE R6.5).
unfoldable pub in_error : Side → Mills → Mills → Mills → Bool
in_error Buy execution tp minimum = leb (tp.0 + minimum.0) execution.0
in_error Sell execution tp minimum = leb (execution.0 + minimum.0) tp.0

-- the largest number of mills that four bytes hold
abbrev pub largest : ℕ
largest = 4294967295

-- TP plus (buy) or minus (sell) an amount. A sum stops at the largest number and a difference at 0; the adjustment of an
-- error comes to neither end (`moved_apart`).
unfoldable pub moved_by : Side → Mills → Mills → Mills
moved_by Buy tp by = mills (min (tp.0 + by.0) largest)
moved_by Sell tp by = mills (tp.0 - by.0)
