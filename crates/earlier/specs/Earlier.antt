-- The quotes strictly before the trade (RULE R16.3), and their number (RULE R16.20, R16.21). A list of quotes is in the order in which they came.
use Rattle.std.specs.Prelude.{ℕ, Bool, List, [], ◌∷◌, length, ltb, eqb}
use Rattle.wire.specs.Tests.{pick}
use Rattle.quotes.specs.declared.Posted.{Posted}
use Rattle.quotes.specs.Quotes.{posted_in, quotes_refusal_of}

unfoldable pub earlier : ℕ → List Posted → List Posted
earlier t [] = []
earlier t (q ∷ qs) = pick (ltb q.time.0 t) (q ∷ earlier t qs) (earlier t qs)

-- how many they are
abbrev pub count_of : List ℕ → ℕ → ℕ
count_of s t = length (earlier t (posted_in s))

-- 28: whoever looks up brings that number, and no other
unfoldable pub number_ok : List ℕ → ℕ → ℕ → Bool
number_ok s t n = eqb n (count_of s t)

-- the number for who does not have it: 0 where the quotes or the time are refused
unfoldable pub quotes_before_of : List ℕ → ℕ → ℕ
quotes_before_of s t = pick (eqb (quotes_refusal_of s t) 0) (count_of s t) 0
