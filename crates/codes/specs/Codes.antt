-- The numbers by which the record spells each coded byte (RULE R2.6).
-- `..Number` gives the page's number for each case of an answer; `..Of` reads it back. A byte outside its list reads
-- as the last case: refusal 3 is given before anyone uses that reading.
use Rattle.std.specs.Prelude.{ℕ, Bool, true, false, eqb}
use Rattle.wire.specs.Tests.{pick}
use Rattle.codes.specs.Words.{Side, Buy, Sell, Kind, Customer, MarketMaker, Other, Day, TradeDate, NextDay, Later, Agreement, NotMade, OnPrice, ToNullify}

-- ---- 44, side in error: 1 buy, 2 sell
abbrev pub side_number : Side → ℕ
side_number Buy = 1
side_number Sell = 2

unfoldable pub side_of : ℕ → Side
side_of b = pick (eqb b 1) Buy Sell

-- ---- 64 and 65, a party's kind: 1 Customer, 2 Market Maker, 3 other
abbrev pub kind_number : Kind → ℕ
kind_number Customer = 1
kind_number MarketMaker = 2
kind_number Other = 3

unfoldable pub kind_of : ℕ → Kind
kind_of b = pick (eqb b 1) Customer (pick (eqb b 2) MarketMaker Other)

-- ---- 66, filing day: 0 trade date, 1 next trading day, 2 later
abbrev pub day_number : Day → ℕ
day_number TradeDate = 0
day_number NextDay = 1
day_number Later = 2

unfoldable pub day_of : ℕ → Day
day_of b = pick (eqb b 0) TradeDate (pick (eqb b 1) NextDay Later)

-- ---- 67, agreement: 0 none, 1 a price, 2 nullify
abbrev pub agreement_number : Agreement → ℕ
agreement_number NotMade = 0
agreement_number OnPrice = 1
agreement_number ToNullify = 2

unfoldable pub agreement_of : ℕ → Agreement
agreement_of b = pick (eqb b 0) NotMade (pick (eqb b 1) OnPrice ToNullify)

-- ---- 45, 46 and 47, a yes or no: 1 yes, 0 no
abbrev pub flag_number : Bool → ℕ
flag_number true = 1
flag_number false = 0

unfoldable pub flag_of : ℕ → Bool
flag_of b = eqb b 1
