-- The tests 1 to 9 of "Numbers given back instead of a ruling" (RULE R3.1 to R3.9), numbered and in the table's order. A test says what is
-- in order; its number is given back where it is the first that does not hold.
use Rattle.std.specs.Prelude.{ℕ, Bool, true, false, not, ◌&&◌, ◌||◌, List, [], ◌∷◌, length, get_or, leb, eqb}
use Rattle.wire.specs.Numbers.{number_at}
use Rattle.wire.specs.Tests.{in_range, first_failed}
use Rattle.facts.specs.Limits.{violates}
use Rattle.forms.specs.Heads.{is_length, known, size_in, kind_in}
use Rattle.forms.specs.Forms.{differential_of}
use Rattle.refusals.specs.Words.{Mills, Contracts, Seconds, Price, Some, None, Moment, Buy, Sell, Day, TradeDate, NextDay, Later, Agreement, NotMade, OnPrice, ToNullify, Party, Trade, Market, Request, Settlement, Facts}

-- ---- 1: the case is as long as some kind of case, 88 or 92 bytes
abbrev pub length_ok : List ℕ → Bool
length_ok s = is_length (length s)

-- ---- 2: length and kind at its head are a pair that there is, (88, 1) or (92, 2), and that of its very length
unfoldable pub head_ok : List ℕ → Bool
head_ok s = known (size_in s) (kind_in s) && eqb (size_in s) (length s)

-- ---- 3: every zero byte is zero, and every coded byte is in its list
unfoldable pub zeros_ok : List ℕ → Bool
zeros_ok s = eqb (number_at 4 s 36) 0 && eqb (number_at 4 s 84) 0

-- side; opening, expiry deadline, panel; buyer's and seller's kind; filing day; agreement
unfoldable pub lists_ok : List ℕ → Bool
lists_ok s =
    in_range 1 2 (get_or s 44 0)
    && in_range 0 1 (get_or s 45 0)
    && in_range 0 1 (get_or s 46 0)
    && in_range 0 1 (get_or s 47 0)
    && in_range 1 3 (get_or s 64 0)
    && in_range 1 3 (get_or s 65 0)
    && in_range 0 2 (get_or s 66 0)
    && in_range 0 2 (get_or s 67 0)

abbrev pub coded_ok : List ℕ → Bool
coded_ok s = zeros_ok s && lists_ok s

-- ---- 4: each byte of a member code is 'A' to 'Z' (65 to 90) or '0' to '9' (48 to 57)
unfoldable pub code_byte_ok : ℕ → Bool
code_byte_ok b = in_range 65 90 b || in_range 48 57 b

unfoldable pub code_ok : List ℕ → Bool
code_ok c = code_byte_ok (get_or c 0 0) && code_byte_ok (get_or c 1 0) && code_byte_ok (get_or c 2 0) && code_byte_ok (get_or c 3 0)

unfoldable pub codes_ok : Party → Party → Bool
codes_ok buyer seller = code_ok buyer.code && code_ok seller.code

-- ---- 5: a price is at most 9,999,999; none passes wherever it is permitted, which is everywhere but for the execution price and the
-- permitted differential
abbrev pub mills_ok : Mills → Bool
mills_ok m = leb m.0 9999999

abbrev pub price_ok : Price → Bool
price_ok (Some m) = mills_ok m
price_ok None = true

unfoldable pub quotes_priced : Market → Bool
quotes_priced m = price_ok m.bid.price && price_ok m.offer.price && price_ok m.official

-- a permitted differential, where the form has one, is 1 to 9,999,999
abbrev pub differential_ok : Price → Bool
differential_ok (Some d) = in_range 1 9999999 d.0
differential_ok None = true

unfoldable pub prices_ok : Facts → Bool
prices_ok f =
    mills_ok f.trade.price
    && quotes_priced f.market
    && price_ok f.buyer.limit
    && price_ok f.seller.limit
    && price_ok f.settlement.agreed
    && differential_ok (differential_of f.form)

-- ---- 6: 1 to 1,000,000 contracts; a size is at most 1,000,000, at least 1 for a quote above zero, 0 for a quote of none
abbrev pub quote_ok : Price → Contracts → Bool
quote_ok (Some m) size = leb size.0 1000000 && (eqb m.0 0 || leb 1 size.0)
quote_ok None size = eqb size.0 0

unfoldable pub counts_ok : Trade → Market → Bool
counts_ok t m =
    leb 1 t.contracts.0
    && leb t.contracts.0 1000000
    && quote_ok m.bid.price m.bid.size
    && quote_ok m.offer.price m.offer.size

-- ---- 7: times of day to 86,399, seconds after notice to 86,400; on day 0 no filing before the execution
abbrev pub moment_ok : Moment → Bool
moment_ok (Some t) = leb t.0 86400
moment_ok None = true

abbrev pub filed_ok : Day → Seconds → Seconds → Bool
filed_ok TradeDate executed filed = leb executed.0 filed.0
filed_ok NextDay executed filed = true
filed_ok Later executed filed = true

unfoldable pub times_ok : Trade → Request → Settlement → Bool
times_ok t r s =
    leb t.executed.0 86399
    && leb r.filed.0 86399
    && leb s.made.0 86400
    && moment_ok s.accepted
    && filed_ok r.day t.executed r.filed

-- ---- 8: the execution price violates neither party's limit
unfoldable pub limits_ok : Trade → Party → Party → Bool
limits_ok t buyer seller = not (violates Buy buyer.limit t.price) && not (violates Sell seller.limit t.price)

-- ---- 9: an agreed price is there exactly where the agreement is on a price; where none was made its seconds are 0
abbrev pub agreement_ok : Agreement → Price → Seconds → Bool
agreement_ok NotMade (Some m) made = false
agreement_ok NotMade None made = eqb made.0 0
agreement_ok OnPrice (Some m) made = true
agreement_ok OnPrice None made = false
agreement_ok ToNullify (Some m) made = false
agreement_ok ToNullify None made = true

-- ---- the tests in their order: those on the bytes, those on the facts
abbrev pub byte_tests : List ℕ → List (ℕ × Bool)
byte_tests s = (2, head_ok s) ∷ (3, coded_ok s) ∷ []

abbrev pub form_tests : List ℕ → List (ℕ × Bool)
form_tests s = (1, length_ok s) ∷ byte_tests s

-- length and head alone: what cutting a sheet has shown of each of its cases
abbrev pub head_tests : List ℕ → List (ℕ × Bool)
head_tests s = (1, length_ok s) ∷ (2, head_ok s) ∷ []

-- those on facts that come after the codes
abbrev pub later_tests : Facts → List (ℕ × Bool)
later_tests f =
    (5, prices_ok f)
    ∷ (6, counts_ok f.trade f.market)
    ∷ (7, times_ok f.trade f.request f.settlement)
    ∷ (8, limits_ok f.trade f.buyer f.seller)
    ∷ (9, agreement_ok f.settlement.agreement f.settlement.agreed f.settlement.made)
    ∷ []

abbrev pub fact_tests : Facts → List (ℕ × Bool)
fact_tests f = (4, codes_ok f.buyer f.seller) ∷ later_tests f

-- the number of the first of the tests on length and head that the bytes fail, or 0
unfoldable pub head_fault_of : List ℕ → ℕ
head_fault_of s = first_failed (head_tests s)

-- the number of the first test that the bytes fail, or 0
unfoldable pub form_fault_of : List ℕ → ℕ
form_fault_of s = first_failed (form_tests s)

-- the number of the first test from 5 on that the facts fail, or 0
unfoldable pub later_fault_of : Facts → ℕ
later_fault_of f = first_failed (later_tests f)

-- the number of the first test that the facts fail, or 0
unfoldable pub fault_of : Facts → ℕ
fault_of f = first_failed (fact_tests f)
