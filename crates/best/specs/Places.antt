-- How the code holds the sixteen last quotes: by place, 0 for none and k + 1 for record k. Nothing that a callable function promises speaks of it.
use Rattle.std.specs.Prelude.{ℕ, zero, suc, ◌+◌, ◌≤◌, ◌/◌, ◌≡◌, List, map, length, get_or, set, eqb}
use Rattle.wire.specs.Tests.{pick}
use Rattle.quotes.specs.Quotes.{posted_at, posted_from}
use Rattle.best.specs.Words.{Quote, Half, Last, None, Some, Walk}
use Rattle.best.specs.Lasts.{lasts}
use Rattle.best.specs.Examined.{examined_in}
use Rattle.best.specs.Best.{said_by}

abbrev pub placed_at : List ℕ → ℕ → Last
placed_at s zero = None
placed_at s (suc k) = Some (posted_at s k)

abbrev pub placed : List ℕ → List ℕ → List Last
placed s places = map (placed_at s) places

-- what stands at the places, of the half that is asked for
abbrev pub said : Half → List ℕ → List ℕ → List Quote
said h s places = map (said_by h) (placed s places)

-- each place is that of a record
abbrev pub Within : List ℕ → List ℕ → Type 0
Within s places = (k : ℕ) → get_or places k 0 ≤ length s / 28

-- a quote met: its place is kept unless the exchange's is known
unfoldable pub met : Walk → ℕ → ℕ → Walk
met w i place = pick (eqb (get_or w.last i 0) 0) (record { last = set w.last i place; known = w.known + 1 }) w

-- what the walk over the first n quotes ends with
pub record Walked (s : List ℕ) (n : ℕ) (places : List ℕ) (examined : ℕ) : Type 0 where
  pub last : placed s places ≡ lasts (posted_from s 0 n)
  pub read : examined ≡ examined_in (posted_from s 0 n)
  pub within : Within s places
