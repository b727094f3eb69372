-- What a value of a piece says, and the place in the record where it stands (RULE R17.2, R17.3).
use Rattle.std.specs.Prelude.{ℕ, ◌+◌, ◌-◌, Bool, true, false, List, [], ◌∷◌, ◌++◌, eqb}
use Rattle.wire.specs.Tests.{pick}
use Rattle.text.specs.Text.{letters, decimal_of}
use Rattle.spelling.specs.Times.{time_text}
use Rattle.spelling.specs.Dollars.{dollars_text}
use Rattle.words.specs.Words.{Moment, Some, None, Kind, Customer, MarketMaker, Other, Day, TradeDate, NextDay, Later, Agreement, NotMade, OnPrice, ToNullify, Place, Value, Nothing, Number, Count, Dollars, Time, Lapse, Letter, Who, On, Flag, Terms}
use Rattle.words.specs.Grouped.{grouped_text}

-- ---- the words of the coded bytes

abbrev pub kind_words : Kind → List ℕ
kind_words Customer = letters "a Customer"
kind_words MarketMaker = letters "a Market Maker"
kind_words Other = letters "another kind of party"

abbrev pub day_words : Day → List ℕ
day_words TradeDate = letters "the trade date"
day_words NextDay = letters "the next day"
day_words Later = letters "a later day"

abbrev pub flag_words : Bool → List ℕ
flag_words true = letters "yes"
flag_words false = letters "no"

abbrev pub agreement_words : Agreement → List ℕ
agreement_words NotMade = letters "none"
agreement_words OnPrice = letters "on a price"
agreement_words ToNullify = letters "to nullify"

-- seconds that have passed, or none
unfoldable pub seconds_text : ℕ → List ℕ
seconds_text n = grouped_text n ++ letters " s"

abbrev pub lapse_text : Moment → List ℕ
lapse_text (Some t) = seconds_text t.0
lapse_text None = letters "none"

-- ---- a value: a number as it is, a count with its commas, dollars, a time of day, seconds passed, a letter, the words of a code
unfoldable pub value_text : Value → List ℕ
value_text Nothing = []
value_text (Number n) = decimal_of n
value_text (Count n) = grouped_text n
value_text (Dollars p) = dollars_text p
value_text (Time t) = time_text t.0
value_text (Lapse m) = lapse_text m
value_text (Letter b) = b ∷ []
value_text (Who k) = kind_words k
value_text (On d) = day_words d
value_text (Flag b) = flag_words b
value_text (Terms a) = agreement_words a

-- ---- a place: so many bytes from one on; no word where there are none
unfoldable pub byte_text : ℕ → List ℕ
byte_text at = (letters " (byte " ++ decimal_of at) ++ letters ")"

unfoldable pub bytes_text : ℕ → ℕ → List ℕ
bytes_text at width = (((letters " (bytes " ++ decimal_of at) ++ letters " to ") ++ decimal_of (at + width - 1)) ++ letters ")"

unfoldable pub place_text : Place → List ℕ
place_text p = pick (eqb p.width 0) [] (pick (eqb p.width 1) (byte_text p.at) (bytes_text p.at p.width))
