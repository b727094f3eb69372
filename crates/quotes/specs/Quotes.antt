-- The exchanges' quotes as they reach us (RULE R16.1, R16.2): records of 28 bytes, one after the other, at most 2,000 of them; and the tests 20
-- to 23 on them (RULE R3.20 to R3.23).
use Rattle.std.specs.Prelude.{ℕ, zero, suc, ◌+◌, ◌*◌, ◌/◌, ◌%◌, Bool, true, ◌&&◌, List, [], ◌∷◌, ◌++◌, length, leb, eqb}
use Rattle.wire.specs.Numbers.{number_at}
use Rattle.wire.specs.Tests.{in_range, first_failed}
use Rattle.facts.specs.Numbers.{contracts, seconds, price_of}
use Rattle.refusals.specs.Tests.{price_ok, quote_ok}
use Rattle.quotes.specs.Words.{Quote, Posted}

-- a price and a size as their numbers say them
abbrev pub quote_of : ℕ → ℕ → Quote
quote_of price size = record { price = price_of price; size = contracts size }

-- ---- what record k says. 0 length; 2 kind; 4 exchange; 8 time; 12 bid; 16 offer; 20 bid size; 24 offer size
unfoldable pub posted_at : List ℕ → ℕ → Posted
posted_at s k =
    record {
      exchange = number_at 4 s (k * 28 + 4);
      time = seconds (number_at 4 s (k * 28 + 8));
      bid = quote_of (number_at 4 s (k * 28 + 12)) (number_at 4 s (k * 28 + 20));
      offer = quote_of (number_at 4 s (k * 28 + 16)) (number_at 4 s (k * 28 + 24));
    }

-- n records from record k on
unfoldable pub posted_from : List ℕ → ℕ → ℕ → List Posted
posted_from s k zero = []
posted_from s k (suc n) = posted_at s k ∷ posted_from s (suc k) n

-- how many, and all of them, in the order in which they came
abbrev pub quotes_in : List ℕ → ℕ
quotes_in s = length s / 28

abbrev pub posted_in : List ℕ → List Posted
posted_in s = posted_from s 0 (quotes_in s)

-- ---- 20: a multiple of 28, at most 56,000 bytes
unfoldable pub whole_quotes : List ℕ → Bool
whole_quotes s = eqb (length s % 28) 0 && leb (length s) 56000

-- ---- 21: no bad field. The record says length 28 and kind 32
unfoldable pub is_quote : List ℕ → ℕ → Bool
is_quote s k = eqb (number_at 2 s (k * 28)) 28 && eqb (number_at 2 s (k * 28 + 2)) 32

-- a price and its size under the rules of tests 5 and 6
unfoldable pub side_ok : Quote → Bool
side_ok q = price_ok q.price && quote_ok q.price q.size

-- exchange 1 to 16; a time of day, to 86,399; both sides
unfoldable pub fields_ok : Posted → Bool
fields_ok q = in_range 1 16 q.exchange && leb q.time.0 86399 && side_ok q.bid && side_ok q.offer

unfoldable pub record_ok : List ℕ → ℕ → Bool
record_ok s k = is_quote s k && fields_ok (posted_at s k)

-- each of n records from record k on
unfoldable pub records_ok : List ℕ → ℕ → ℕ → Bool
records_ok s k zero = true
records_ok s k (suc n) = record_ok s k && records_ok s (suc k) n

-- ---- 22: no time is lower than the one before it; t stands before the first
unfoldable pub rising_from : ℕ → List Posted → Bool
rising_from t [] = true
rising_from t (q ∷ qs) = leb t q.time.0 && rising_from q.time.0 qs

abbrev pub rising : List Posted → Bool
rising qs = rising_from 0 qs

-- ---- the tests in their order, each over the whole list; 23: the trade's time of day to 86,399
abbrev pub list_tests : List ℕ → List (ℕ × Bool)
list_tests s = (21, records_ok s 0 (quotes_in s)) ∷ (22, rising (posted_in s)) ∷ []

abbrev pub quote_tests : List ℕ → ℕ → List (ℕ × Bool)
quote_tests s t = (20, whole_quotes s) ∷ (list_tests s ++ (23, leb t 86399) ∷ [])

unfoldable pub quotes_refusal_of : List ℕ → ℕ → ℕ
quotes_refusal_of s t = first_failed (quote_tests s t)

-- the two in the middle, which the code makes in one pass
unfoldable pub list_fault_of : List ℕ → ℕ
list_fault_of s = first_failed (list_tests s)
