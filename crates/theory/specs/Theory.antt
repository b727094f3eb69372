-- The theoretical price, TP, and its origin (RULE R5; document 003 (a)(2), and of quotes too wide to trust document 000, struck (a)(2)(B)).
use Rattle.std.specs.Prelude.{ℕ, Bool, true, leb}
use Rattle.wire.specs.Tests.{pick}
use Rattle.facts.specs.Numbers.{price_number}
use Rattle.forms.specs.Forms.{differential_of}
use Rattle.width.specs.Width.{wide}
use Rattle.theory.specs.Words.{Contracts, Price, Some, None, Side, Buy, Sell, Form, Quote, Market, Origin, Quoted, Official, Theory}

-- A buy is held against the best offer, a sell against the best bid (RULE R5.1).
abbrev pub quote_for : Side → Market → Quote
quote_for Buy m = m.offer
quote_for Sell m = m.bid

-- An official gives it for every contract; where that price is none as well, there is no TP and the case waits (RULE R5.3, R9.3).
abbrev pub official_source : Price → Theory
official_source (Some p) = Some (record { price = p; origin = Official })
official_source None = None

-- A quote gives its price for as many contracts as it has (RULE R9.1); where that price is none, the official's is taken (RULE R5.2).
abbrev pub source_of : Price → Contracts → Price → Theory
source_of (Some p) size official = Some (record { price = p; origin = Quoted size })
source_of None size official = official_source official

-- Quotes that are too wide by the record's differential count as none (RULE R5.8); a record without one, of kind 1, trusts every quote (RULE R5.10).
abbrev pub too_wide : Form → Market → Bool
too_wide form m = wide (differential_of form) m.bid.price m.offer.price

-- the price of the side's quote, where the quotes can be trusted
abbrev pub trusted_price : Form → Side → Market → Price
trusted_price form side m = pick (too_wide form m) None (quote_for side m).price

unfoldable pub theory_of : Form → Side → Market → Theory
theory_of form side m = source_of (trusted_price form side m) (quote_for side m).size m.official

-- ---- TP as a number

-- TP or none, and its number in the record: 4,294,967,295 where it is none
abbrev pub theory_price : Theory → Price
theory_price (Some s) = Some s.price
theory_price None = None

abbrev pub theory_number : Theory → ℕ
theory_number t = price_number (theory_price t)

-- the first price; the second where the first is none
abbrev pub or_else : Price → Price → Price
or_else (Some p) other = Some p
or_else None other = other

-- ---- its origin as a number: 1 a quote, 2 an official, 0 where there is no TP (RULE R5.4)
abbrev pub origin_number : Origin → ℕ
origin_number (Quoted size) = 1
origin_number Official = 2

abbrev pub theory_origin : Theory → ℕ
theory_origin (Some s) = origin_number s.origin
theory_origin None = 0

-- the same from the prices alone, a quote's and an official's: 1 where the first is there, else 2 where the second is, else 0
abbrev pub origin_among : Price → Price → ℕ
origin_among (Some p) (Some official) = 1
origin_among (Some p) None = 1
origin_among None (Some official) = 2
origin_among None None = 0

-- none, or at most k mills
abbrev pub up_to : ℕ → Price → Bool
up_to k (Some p) = leb p.0 k
up_to k None = true
