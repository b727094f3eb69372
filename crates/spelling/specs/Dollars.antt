-- Prices as people write them: dollars with three decimals, `2.000`, or `none`.
use Rattle.std.specs.Prelude.{ℕ, ◌/◌, ◌%◌, List, [], ◌∷◌, ◌++◌}
use Rattle.text.specs.Text.{letters, digit, decimal_of}
use Rattle.spelling.specs.Words.{Price, Some, None}

-- the point (46), and the last three digits of a number of mills
abbrev pub decimals : ℕ → List ℕ
decimals n = 46 ∷ digit (n / 100 % 10) ∷ digit (n / 10 % 10) ∷ digit (n % 10) ∷ []

-- mills in dollars: the thousands without leading zeros, and the decimals
unfoldable pub mills_text : ℕ → List ℕ
mills_text n = decimal_of (n / 1000) ++ decimals n

-- a price in dollars, or `none`
unfoldable pub dollars_text : Price → List ℕ
dollars_text (Some m) = mills_text m.0
dollars_text None = letters "none"
