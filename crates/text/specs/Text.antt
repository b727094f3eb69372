-- Numbers and prices as the printer spells them (RULE R11.3: prices in mills, `-` for none), and where they go in a lent buffer.
use Rattle.std.specs.Prelude.{ℕ, zero, suc, ◌+◌, ◌-◌, ◌*◌, ◌/◌, ◌%◌, Bool, true, ◌&&◌, List, [], ◌∷◌, ◌++◌, take, ltb}
use Prim.Native.Char.{code}
use Prim.Native.String.{String, [] as nothing, ◌∷◌ as ◌then◌}
use Rattle.wire.specs.Tests.{pick, in_range}
use Rattle.wire.specs.Laid.{laid}
use Rattle.text.specs.Words.{Price, Some, None}

-- w written over l from place at on: every byte before the place and every byte after w is kept
unfoldable pub laid_at : ℕ → List ℕ → List ℕ → List ℕ
laid_at at w l = laid (take at l ++ w) l

-- the bytes of a word in plain letters: each is its letter's code
abbrev pub letters : String → List ℕ
letters nothing = []
letters (c then s) = code c ∷ letters s

-- the byte of a digit: 48 is `0`
abbrev pub digit : ℕ → ℕ
digit d = 48 + d

-- n in decimal, in at most k + 1 digits: a number below 10 is one digit, another is its tenth's digits and then its last one
unfoldable pub spelt : ℕ → ℕ → List ℕ
spelt zero n = digit n ∷ []
spelt (suc k) n = pick (ltb n 10) (digit n ∷ []) (spelt k (n / 10) ++ (digit (n % 10) ∷ []))

-- a four-byte number in decimal, without leading zeros: ten digits are enough
unfoldable pub decimal_of : ℕ → List ℕ
decimal_of n = spelt 9 n

-- a price in mills, or `-` for none
unfoldable pub price_text : Price → List ℕ
price_text (Some m) = decimal_of m.0
price_text None = letters "-"

-- ---- what a reader makes of the digits

-- whether every byte is one of `0` (48) to `9` (57)
abbrev pub all_digits : List ℕ → Bool
all_digits [] = true
all_digits (b ∷ bs) = in_range 48 57 b && all_digits bs

-- the number that these digits stand for, after those that stand for n
abbrev pub value_from : ℕ → List ℕ → ℕ
value_from n [] = n
value_from n (b ∷ bs) = value_from (n * 10 + (b - 48)) bs

abbrev pub value_of : List ℕ → ℕ
value_of w = value_from 0 w
