-- What is told with a place stands at that place of the record (RULE R17.3).
use Rattle.std.specs.Prelude.{ℕ, zero, suc, ◌+◌, ◌≤◌, ◌≡◌, List, [], ◌∷◌, length}
use Rattle.wire.specs.Numbers.{number_at}
use Rattle.facts.specs.Numbers.{price_number, moment_number}
use Rattle.codes.specs.Codes.{kind_number, day_number, flag_number, agreement_number}
use Rattle.told.specs.Words.{Place, Value, Nothing, Number, Count, Dollars, Time, Lapse, Letter, Who, On, Flag, Terms, Piece}

-- the number by which the record spells a value
abbrev pub value_number : Value → ℕ
value_number Nothing = 0
value_number (Number n) = n
value_number (Count n) = n
value_number (Dollars p) = price_number p
value_number (Time t) = t.0
value_number (Lapse m) = moment_number m
value_number (Letter b) = b
value_number (Who k) = kind_number k
value_number (On d) = day_number d
value_number (Flag b) = flag_number b
value_number (Terms a) = agreement_number a

-- s has so many bytes from one on, and they say the number; of no bytes nothing is said
abbrev pub InBytes : ℕ → List ℕ → ℕ → ℕ → Type 0
InBytes zero s at n = Unit {0}
InBytes (suc w) s at n = (at + suc w ≤ length s) × (number_at (suc w) s at ≡ n)

-- the value, at the place
abbrev pub StandsAt : List ℕ → Place → Value → Type 0
StandsAt s place v = InBytes place.width s place.at (value_number v)

-- a piece; each piece of a row; each piece of each row
abbrev pub Stands : List ℕ → Piece → Type 0
Stands s p = StandsAt s p.place p.value

abbrev pub AllStand : List ℕ → List Piece → Type 0
AllStand s [] = Unit {0}
AllStand s (p ∷ ps) = Stands s p × AllStand s ps

abbrev pub EachStands : List ℕ → List (List Piece) → Type 0
EachStands s [] = Unit {0}
EachStands s (r ∷ rs) = AllStand s r × EachStands s rs
