-- Where the best prices were born, for people (RULE R16.17): the best bid and the best offer of the quotes before a second, and under each the exchanges
-- whose last quote is at that price. The best is that of a lookup (RULE R16.3 to R16.9), and so is the count of quotes read. 10 is the line feed.
use Rattle.std.specs.Prelude.{ℕ, ◌+◌, List, [], ◌∷◌, ◌++◌, eqb, ltb, length}
use Rattle.wire.specs.Laid.{row}
use Rattle.wire.specs.Tests.{pick}
use Rattle.text.specs.Text.{letters, decimal_of}
use Rattle.spelling.specs.Times.{time_text}
use Rattle.phrases.specs.Phrases.{refusal_text}
use Rattle.quotes.specs.Quotes.{posted_in}
use Rattle.earlier.specs.Earlier.{earlier}
use Rattle.best.specs.Lasts.{last_of}
use Rattle.best.specs.Examined.{examined_in}
use Rattle.best.specs.Best.{said_by}
use Rattle.best.specs.Found.{best_in, found_of}
use Rattle.best_lines.specs.BestLines.{head_line, sayer_line}
use Rattle.standing.specs.Words.{Price, Quote, Posted, Half, Bid, Offer, Last, Typed, Some, None}

-- the line of exchange k + 1, by its last quote among these
abbrev pub sayer_of : Half → Price → List Posted → ℕ → List ℕ
sayer_of h p qs k = sayer_line h p (last_of (k + 1) qs)

-- the lines of the sixteen, in order of number
abbrev pub sayers_text : Half → Price → List Posted → List ℕ
sayers_text h p qs = row (sayer_of h p qs) 16

-- a best, and under it the exchanges that are at its price
unfoldable pub born_text : Half → Quote → List Posted → List ℕ
born_text h best qs = head_line h best ++ sayers_text h best.price qs

-- one half of the text: the best of each exchange's last quote among these, and who is at its price
abbrev pub half_text : Half → List Posted → List ℕ
half_text h qs = born_text h (best_in h qs) qs

-- ---- the sizes of those of these that have a line under this price
unfoldable pub sizes_shown : Half → Price → List Last → ℕ
sizes_shown h p [] = 0
sizes_shown h p (l ∷ ls) = pick (ltb 0 (length (sayer_line h p l))) (said_by h l).size.0 0 + sizes_shown h p ls

-- ---- the second before which the quotes are looked at
unfoldable pub before_line : ℕ → List ℕ
before_line t = letters "quotes before " ++ time_text t ++ (10 ∷ [])

-- how many quotes were read, and how many there are (RULE R16.22)
unfoldable pub read_line : ℕ → ℕ → List ℕ
read_line examined before = decimal_of examined ++ letters " of " ++ decimal_of before ++ (letters " quotes read" ++ (10 ∷ []))

-- the quotes before second t: the bid first, then the offer, then how many were read
unfoldable pub standing_text : ℕ → List Posted → List ℕ
standing_text t qs = before_line t ++ half_text Bid qs ++ half_text Offer qs ++ read_line (examined_in qs) (length qs)

-- a lookup that is refused says so, with its number
unfoldable pub lookup_line : ℕ → List ℕ
lookup_line n = letters "LOOKUP " ++ refusal_text n

-- what the quotes in these bytes give before second t
unfoldable pub found_text : List ℕ → ℕ → List ℕ
found_text s t = pick (eqb (found_of s t).refusal 0) (standing_text t (earlier t (posted_in s))) (lookup_line (found_of s t).refusal)

-- at the time that was typed; a word that is none is told how one is written
unfoldable pub best_text : List ℕ → Typed → List ℕ
best_text s (Some t) = found_text s t
best_text s None = letters "NO TIME: write it as 09:30:00, or in seconds since midnight" ++ (10 ∷ [])
