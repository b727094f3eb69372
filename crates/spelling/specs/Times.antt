-- Clock times as people write them, read and spelt: HH:MM:SS. 58 is `:`, 48 to 57 are `0` to `9`.
use Rattle.std.specs.Prelude.{ℕ, ◌+◌, ◌-◌, ◌*◌, ◌/◌, ◌%◌, min, Bool, ◌&&◌, List, [], ◌∷◌, length, get_or, leb, eqb}
use Rattle.wire.specs.Tests.{pick, in_range}
use Rattle.text.specs.Text.{digit, all_digits, value_of}
use Rattle.spelling.specs.Words.{Typed, Some, None}

-- ---- a time read

-- the number that two digits say; 100, which is no part of a time, where one of the two is no digit
unfoldable pub two_digits : ℕ → ℕ → ℕ
two_digits a b = pick (in_range 48 57 a && in_range 48 57 b) ((a - 48) * 10 + (b - 48)) 100

-- hours, minutes and seconds in seconds: hours 00 to 99, minutes and seconds 00 to 59. 24:00:00 is 86,400 seconds: whether that is a time of
-- day is for the caller to say
unfoldable pub clock_of : ℕ → ℕ → ℕ → Typed
clock_of h m s = pick ((leb h 99 && leb m 59) && leb s 59) (Some (h * 3600 + m * 60 + s)) None

-- the hours in the first two of eight bytes, the minutes in the fourth and fifth, the seconds in the last two
unfoldable pub clock_in : List ℕ → Typed
clock_in w = clock_of (two_digits (get_or w 0 0) (get_or w 1 0)) (two_digits (get_or w 3 0) (get_or w 4 0)) (two_digits (get_or w 6 0) (get_or w 7 0))

-- seconds as a number: one digit or more and nothing else, and a number above 4,294,967,295 is given as 4,294,967,295
unfoldable pub count_in : List ℕ → Typed
count_in w = pick (leb 1 (length w) && all_digits w) (Some (min (value_of w) 4294967295)) None

-- eight bytes, the third and the sixth of them a colon
unfoldable pub has_colons : List ℕ → Bool
has_colons w = eqb (length w) 8 && (eqb (get_or w 2 0) 58 && eqb (get_or w 5 0) 58)

-- what a word says where a time is asked: HH:MM:SS where it has the colons, and seconds as a number where it has not
unfoldable pub time_in : List ℕ → Typed
time_in w = pick (has_colons w) (clock_in w) (count_in w)

-- ---- a time spelt

-- the last two digits of a number
abbrev pub tens : ℕ → ℕ
tens n = digit (n / 10 % 10)

abbrev pub ones : ℕ → ℕ
ones n = digit (n % 10)

-- hours, minutes and seconds, two digits each, with a colon between them
abbrev pub clock_text : ℕ → ℕ → ℕ → List ℕ
clock_text h m s = tens h ∷ ones h ∷ 58 ∷ tens m ∷ ones m ∷ 58 ∷ tens s ∷ ones s ∷ []

-- n seconds as HH:MM:SS: of hours above 99, which no time of day has, the last two digits
unfoldable pub time_text : ℕ → List ℕ
time_text n = clock_text (n / 3600) (n / 60 % 60) (n % 60)
