-- The changes in the rows of a table that a program is run on: AT=N puts a four-byte number into a record, AT.N a byte.
use Rattle.std.specs.Prelude.{ℕ, ◌+◌, ◌*◌, Bool, ◌&&◌, List, [], ◌∷◌, length, set, leb, ltb, eqb, Option, Some, None, is_some}
use Rattle.std.specs.Char.{digit_value}
use Rattle.std.specs.List.{before_first, after_first, position_or_len}
use Rattle.wire.specs.Numbers.{bytes, stored}
use Rattle.wire.specs.Tests.{pick}

-- the number that decimal digits write behind n; it ends before the first byte that is no digit, and before the digit that would pass four bytes
abbrev pub number_from : ℕ → List ℕ → ℕ
number_from n [] = n
number_from n (b ∷ bs) = pick (ltb (digit_value b) 10 && ltb (n * 10 + digit_value b) 4294967296) (number_from (n * 10 + digit_value b) bs) n

abbrev pub number_in : List ℕ → ℕ
number_in text = number_from 0 text

-- a text has such a byte
abbrev pub has : ℕ → List ℕ → Bool
has mark text = ltb (position_or_len (λ b. eqb b mark) text) (length text)

-- what stands before and behind the first such byte
abbrev pub front : ℕ → List ℕ → List ℕ
front mark text = before_first (λ b. eqb b mark) text

abbrev pub rest : ℕ → List ℕ → List ℕ
rest mark text = after_first (λ b. eqb b mark) text

-- and the numbers there
abbrev pub before : ℕ → List ℕ → ℕ
before mark text = number_in (front mark text)

abbrev pub behind : ℕ → List ℕ → ℕ
behind mark text = number_in (rest mark text)

-- the record with the change AT=N ('=' is 61) made, where there is room for four bytes
abbrev pub with_word : List ℕ → List ℕ → Option (List ℕ)
with_word case text = pick (has 61 text && leb (before 61 text + 4) (length case)) (Some (stored case (before 61 text) (bytes 4 (behind 61 text)))) None

-- and with AT.N ('.' is 46), where there is such a place, and such a byte
abbrev pub with_byte : List ℕ → List ℕ → Option (List ℕ)
with_byte case text = pick (has 46 text && ltb (before 46 text) (length case) && ltb (behind 46 text) 256) (Some (set case (before 46 text) (behind 46 text))) None

-- with the one or the other; none where the text is no change of the record
abbrev pub changed_by : List ℕ → List ℕ → Option (List ℕ)
changed_by case text = pick (is_some (with_word case text)) (with_word case text) (with_byte case text)
