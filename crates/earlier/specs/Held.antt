-- A number of quotes held against the trade by two of them, which is enough where they are in time order. Nothing that a callable function promises
-- speaks of it.
use Rattle.std.specs.Prelude.{ℕ, zero, suc, Bool, true, List, ltb, leb}
use Rattle.wire.specs.Tests.{pick}
use Rattle.quotes.specs.Quotes.{posted_at, quotes_in}

-- the last of the first n is strictly before the trade, if there is one
abbrev pub ends_before : List ℕ → ℕ → ℕ → Bool
ends_before s t zero = true
ends_before s t (suc k) = ltb (posted_at s k).time.0 t

-- the one after them is not, if there is one
unfoldable pub next_is_late : List ℕ → ℕ → ℕ → Bool
next_is_late s t n = pick (leb (quotes_in s) n) true (leb t (posted_at s n).time.0)
