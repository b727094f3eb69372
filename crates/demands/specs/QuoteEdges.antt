-- The lookup and the filling are not empty (RULE R3.28, R16.16, R16.22): worked cases, of which the expected answers were found by hand. Unless said
-- the trade is at second 30. By computation.
use Rattle.std.specs.Prelude.{ℕ, ◌≡◌, refl, List, [], ◌∷◌, ◌++◌, Some}
use Rattle.wire.specs.Numbers.{bytes, stored, number_at}
use Rattle.wire.specs.Tests.{in_range}
use Rattle.facts.specs.declared.Quote.{Quote}
use Rattle.facts.specs.Numbers.{mills, contracts, price_of, moment_of}
use Rattle.codes.specs.Codes.{side_of, kind_of, day_of, agreement_of, flag_of}
use Rattle.forms.specs.Heads.{pairs, is_length, known}
use Rattle.forms.specs.Forms.{form_of}
use Rattle.record.specs.Record.{trade_of, market_of, request_of, party_at, settlement_of, facts_of}
use Rattle.refusals.specs.Tests.{head_ok, zeros_ok, lists_ok, codes_ok, code_ok, code_byte_ok, prices_ok, quotes_priced, counts_ok, times_ok, limits_ok}
use Rattle.cases.specs.Cases.{refusal_of}
use Rattle.quotes.specs.Quotes.{posted_at, posted_from, whole_quotes, is_quote, side_ok, fields_ok, record_ok, records_ok, rising_from, quotes_refusal_of}
use Rattle.halves.specs.Halves.{size_if}
use Rattle.best.specs.declared.Found.{Found}
use Rattle.earlier.specs.Earlier.{earlier, number_ok}
use Rattle.best.specs.Lasts.{last_of, lasts_from}
use Rattle.best.specs.Best.{nobody, best_price, size_at, best_of}
use Rattle.best.specs.declared.Looked.{Looked}
use Rattle.best.specs.Examined.{all_known, examined_in}
use Rattle.best.specs.Found.{found_in, refused, found_of}
use Rattle.best.specs.Looked.{look_refusal_of, looked_in, unread, looked_of}
use Rattle.filling.specs.Filling.{filled, fill_refusal_of, filling_of}
use Rattle.specimen.specs.Good.{good_case}

-- a record: length, kind, exchange, time; bid and offer, then their sizes
abbrev post : ℕ → ℕ → ℕ → ℕ → ℕ → ℕ → List ℕ
post exchange time bid offer bids offers = bytes 2 28 ++ bytes 2 32 ++ bytes 4 exchange ++ bytes 4 time ++ bytes 4 bid ++ bytes 4 offer ++ bytes 4 bids ++ bytes 4 offers

abbrev none : ℕ
none = 4294967295

abbrev side : ℕ → ℕ → Quote
side p n = record { price = Some (mills p); size = contracts n }

abbrev found : Quote → Quote → Found
found bid offer = record { refusal = 0; bid = bid; offer = offer }

-- The highest bid with the sizes of both exchanges that stand at it, and the lowest offer; the quote at the second of the trade has no say.
pub summed : found_of (post 1 10 500 700 3 1 ++ post 2 20 500 650 4 2 ++ post 3 30 600 600 9 9) 30 ≡ found (side 500 7) (side 650 2)
unfolding found_of found_in quotes_refusal_of whole_quotes is_quote side_ok fields_ok record_ok records_ok rising_from posted_at posted_from earlier last_of lasts_from best_price size_if size_at best_of number_at price_of in_range
summed = refl

-- An exchange's last quote, not its first: exchange 1 last sent no bid, and its bid of 900 is not revived; its offer still counts.
pub not_revived : found_of (post 1 10 900 950 3 1 ++ post 2 10 800 990 5 2 ++ post 1 20 none 970 0 4) 30 ≡ found (side 800 5) (side 970 4)
unfolding found_of found_in quotes_refusal_of whole_quotes is_quote side_ok fields_ok record_ok records_ok rising_from posted_at posted_from earlier last_of lasts_from best_price size_if size_at best_of number_at price_of in_range
not_revived = refl

-- A bid of zero is a bid; a sum above 1,000,000 is given as 1,000,000; nobody offers.
pub capped : found_of (post 1 10 0 none 0 0 ++ post 2 10 0 none 600000 0 ++ post 3 29 0 none 600000 0) 30 ≡ found (side 0 1000000) nobody
unfolding found_of found_in quotes_refusal_of whole_quotes is_quote side_ok fields_ok record_ok records_ok rising_from posted_at posted_from earlier last_of lasts_from best_price size_if size_at best_of number_at price_of in_range
capped = refl

-- An offer of zero is the lowest, and its sizes are summed and capped alike; nobody bids.
pub lowest : found_of (post 1 10 none 5 0 7 ++ post 2 10 none 0 0 999999 ++ post 3 29 none 0 0 2) 30 ≡ found nobody (side 0 1000000)
unfolding found_of found_in quotes_refusal_of whole_quotes is_quote side_ok fields_ok record_ok records_ok rising_from posted_at posted_from earlier last_of lasts_from best_price size_if size_at best_of number_at price_of in_range
lowest = refl

-- Before second 0 no quote is; before second 86,399 one of the second before it is, and one of its own second is not.
pub first_second : found_of (post 1 0 500 700 3 1) 0 ≡ found nobody nobody
unfolding found_of found_in quotes_refusal_of whole_quotes is_quote side_ok fields_ok record_ok records_ok rising_from posted_at posted_from earlier last_of lasts_from best_price size_if size_at best_of number_at price_of in_range
first_second = refl

pub last_second : found_of (post 1 86398 500 700 3 1 ++ post 2 86399 600 650 4 2) 86399 ≡ found (side 500 3) (side 700 1)
unfolding found_of found_in quotes_refusal_of whole_quotes is_quote side_ok fields_ok record_ok records_ok rising_from posted_at posted_from earlier last_of lasts_from best_price size_if size_at best_of number_at price_of in_range
last_second = refl

-- No quotes: none, size 0.
pub nothing : found_of [] 30 ≡ found nobody nobody
unfolding found_of found_in quotes_refusal_of whole_quotes records_ok rising_from posted_from earlier last_of lasts_from best_price size_if size_at best_of
nothing = refl

-- Of two quotes of one exchange at one second the later record is the last.
pub later_record : found_of (post 4 20 700 900 1 1 ++ post 4 20 600 950 2 2) 30 ≡ found (side 600 2) (side 950 2)
unfolding found_of found_in quotes_refusal_of whole_quotes is_quote side_ok fields_ok record_ok records_ok rising_from posted_at posted_from earlier last_of lasts_from best_price size_if size_at best_of number_at price_of in_range
later_record = refl

-- A byte too many; exchange 17 in the last record of a list that goes back before it; a list that goes back; second 86,400.
pub twenty : found_of (post 1 10 500 700 3 1 ++ (0 ∷ [])) 30 ≡ refused 20
unfolding found_of quotes_refusal_of whole_quotes
twenty = refl

pub twenty_one : found_of (post 1 20 500 700 3 1 ++ post 2 10 500 650 4 2 ++ post 17 30 600 600 9 9) 30 ≡ refused 21
unfolding found_of quotes_refusal_of whole_quotes is_quote side_ok fields_ok record_ok records_ok posted_at number_at price_of in_range
twenty_one = refl

pub twenty_two : found_of (post 1 20 500 700 3 1 ++ post 2 10 500 650 4 2) 86400 ≡ refused 22
unfolding found_of quotes_refusal_of whole_quotes is_quote side_ok fields_ok record_ok records_ok rising_from posted_at posted_from number_at price_of in_range
twenty_two = refl

pub twenty_three : found_of (post 1 20 500 700 3 1) 86400 ≡ refused 23
unfolding found_of quotes_refusal_of whole_quotes is_quote side_ok fields_ok record_ok records_ok rising_from posted_at posted_from number_at price_of in_range
twenty_three = refl

-- The good record (`specimen`) is filled by its own execution time, 34,200: bytes 20 to 35, and no other.
pub good_filled : filling_of (post 1 34199 500 700 3 1 ++ post 2 34200 600 650 4 2) good_case ≡ (0, stored good_case 20 (bytes 4 500 ++ bytes 4 700 ++ bytes 4 3 ++ bytes 4 1))
unfolding filling_of fill_refusal_of filled refusal_of head_ok zeros_ok lists_ok codes_ok code_ok code_byte_ok prices_ok quotes_priced counts_ok times_ok limits_ok facts_of trade_of market_of request_of party_at settlement_of moment_of side_of kind_of day_of agreement_of flag_of found_of found_in quotes_refusal_of whole_quotes is_quote side_ok fields_ok record_ok records_ok rising_from posted_at posted_from earlier last_of lasts_from best_price size_if size_at best_of number_at price_of in_range is_length known pairs form_of
good_filled = refl

-- ---- how many quotes are read (RULE R16.22), with the number of quotes before the trade

-- exchanges 2 to 15, one quote each at second 20: a bid of 400 for one
abbrev fourteen : List ℕ
fourteen =
    post 2 20 400 none 1 0 ++ post 3 20 400 none 1 0 ++ post 4 20 400 none 1 0 ++ post 5 20 400 none 1 0 ++ post 6 20 400 none 1 0 ++ post 7 20 400 none 1 0
    ++ post 8 20 400 none 1 0 ++ post 9 20 400 none 1 0 ++ post 10 20 400 none 1 0 ++ post 11 20 400 none 1 0 ++ post 12 20 400 none 1 0
    ++ post 13 20 400 none 1 0 ++ post 14 20 400 none 1 0 ++ post 15 20 400 none 1 0

abbrev looked : Quote → Quote → ℕ → Looked
looked bid offer n = record { found = found bid offer; examined = n }

-- Nineteen quotes, eighteen before the trade. Walking back, exchange 1 sends none, which makes it known; then come the fourteen; exchange 3 once more, which
-- is read; then exchange 16, by which all are known. It is read, the seventeenth, and the one before it is not.
pub seventeen_read : looked_of (post 1 5 900 950 3 1 ++ post 16 10 300 700 2 4 ++ post 3 15 800 810 9 9 ++ fourteen ++ post 1 29 none none 0 0 ++ post 5 30 999 999 9 9) 30 18
    ≡ looked (side 400 14) (side 700 4) 17
unfolding looked_of look_refusal_of number_ok looked_in examined_in all_known found_in whole_quotes is_quote side_ok fields_ok record_ok records_ok rising_from posted_at posted_from earlier last_of lasts_from best_price size_if size_at best_of number_at price_of in_range
seventeen_read = refl

-- Without exchange 16 fifteen are known, and that will not do: all seventeen before the trade are read.
pub all_read : looked_of (post 1 5 900 950 3 1 ++ post 1 10 300 700 2 4 ++ post 3 15 800 810 9 9 ++ fourteen) 30 17 ≡ looked (side 400 14) (side 700 4) 17
unfolding looked_of look_refusal_of number_ok looked_in examined_in all_known found_in whole_quotes is_quote side_ok fields_ok record_ok records_ok rising_from posted_at posted_from earlier last_of lasts_from best_price size_if size_at best_of number_at price_of in_range
all_read = refl

-- Nothing before the trade: nothing is read.
pub none_read : looked_of (post 1 30 500 700 3 1) 30 0 ≡ looked nobody nobody 0
unfolding looked_of look_refusal_of number_ok looked_in examined_in all_known found_in whole_quotes is_quote side_ok fields_ok record_ok records_ok rising_from posted_at posted_from earlier last_of lasts_from best_price size_if size_at best_of number_at price_of in_range
none_read = refl

-- A number one too low or one too high is refused, and so is one beyond the list; at second 86,400 that is told, whatever the number.
pub one_too_few : looked_of (post 1 10 500 700 3 1 ++ post 2 20 500 650 4 2) 30 1 ≡ unread 28
unfolding looked_of look_refusal_of number_ok whole_quotes is_quote side_ok fields_ok record_ok records_ok rising_from posted_at posted_from earlier number_at price_of in_range
one_too_few = refl

pub one_too_many : looked_of (post 1 10 500 700 3 1 ++ post 2 30 500 650 4 2) 30 2 ≡ unread 28
unfolding looked_of look_refusal_of number_ok whole_quotes is_quote side_ok fields_ok record_ok records_ok rising_from posted_at posted_from earlier number_at price_of in_range
one_too_many = refl

pub beyond_the_list : looked_of (post 1 10 500 700 3 1) 30 2 ≡ unread 28
unfolding looked_of look_refusal_of number_ok whole_quotes is_quote side_ok fields_ok record_ok records_ok rising_from posted_at posted_from earlier number_at price_of in_range
beyond_the_list = refl

pub time_first : looked_of (post 1 20 500 700 3 1) 86400 7 ≡ unread 23
unfolding looked_of look_refusal_of whole_quotes is_quote side_ok fields_ok record_ok records_ok rising_from posted_at posted_from number_at price_of in_range
time_first = refl
