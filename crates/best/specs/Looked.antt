-- What a lookup answers (RULE R16.20, R16.22): what is found, and how many quotes were read for it. Whoever asks brings the number of quotes strictly
-- before the trade; another number is refused with 28, after 20 to 23 (RULE R3.28).
use Rattle.std.specs.Prelude.{ℕ, Bool, List, [], ◌∷◌, ◌++◌, eqb}
use Rattle.wire.specs.Tests.{pick, first_failed}
use Rattle.quotes.specs.Quotes.{posted_in, quote_tests}
use Rattle.earlier.specs.Earlier.{earlier, number_ok}
use Rattle.best.specs.Words.{Posted, Looked}
use Rattle.best.specs.Examined.{examined_in}
use Rattle.best.specs.Found.{found_in, refused}

-- the tests in their order
abbrev pub look_tests : List ℕ → ℕ → ℕ → List (ℕ × Bool)
look_tests s t n = quote_tests s t ++ (28, number_ok s t n) ∷ []

unfoldable pub look_refusal_of : List ℕ → ℕ → ℕ → ℕ
look_refusal_of s t n = first_failed (look_tests s t n)

-- the best bid and offer among these, and how many of these are read
unfoldable pub looked_in : List Posted → Looked
looked_in qs = record { found = found_in qs; examined = examined_in qs }

-- beside a number nothing is found, and nothing was read
abbrev pub unread : ℕ → Looked
unread n = record { found = refused n; examined = 0 }

unfoldable pub looked_of : List ℕ → ℕ → ℕ → Looked
looked_of s t n = pick (eqb (look_refusal_of s t n) 0) (looked_in (earlier t (posted_in s))) (unread (look_refusal_of s t n))
