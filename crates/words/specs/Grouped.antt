-- A count as people write it, a comma (44) before each three digits: 1,800.
use Rattle.std.specs.Prelude.{ℕ, zero, suc, ◌/◌, ◌%◌, List, [], ◌∷◌, ◌++◌, ltb}
use Rattle.wire.specs.Tests.{pick}
use Rattle.text.specs.Text.{digit, decimal_of}

-- the comma, and the last three digits of a number
abbrev pub group : ℕ → List ℕ
group n = 44 ∷ digit (n / 100 % 10) ∷ digit (n / 10 % 10) ∷ digit (n % 10) ∷ []

-- in at most k groups behind the first digits: a number below 1,000 has none, another is its thousandth's digits and then its last three
unfoldable pub grouped_by : ℕ → ℕ → List ℕ
grouped_by zero n = decimal_of n
grouped_by (suc k) n = pick (ltb n 1000) (decimal_of n) (grouped_by k (n / 1000) ++ group n)

-- a four-byte number: three groups are enough
unfoldable pub grouped_text : ℕ → List ℕ
grouped_text n = grouped_by 3 n
