-- What the laws of looking up and filling speak of (RULE R16.13 to R16.15, R16.22, R16.25).
use Rattle.std.specs.Prelude.{ℕ, ◌%◌, ◌≤◌, ◌<◌, ◌≡◌, true, false, ◌⊎◌, List, [], ◌∷◌, length, Some, None}
use Rattle.facts.specs.Words.{Price}
use Rattle.quotes.specs.declared.Posted.{Posted}
use Rattle.quotes.specs.Quotes.{side_ok}
use Rattle.halves.specs.declared.Half.{Half}
use Rattle.halves.specs.declared.Half.TheVariants.{Bid, Offer}
use Rattle.best.specs.declared.Found.{Found}
use Rattle.earlier.specs.Earlier.{earlier}
use Rattle.best.specs.Lasts.{last_of, lasts}
use Rattle.best.specs.Examined.{all_known}

-- both quotes pass the tests 5 and 6 on quotes
abbrev pub Passes : Found → Type 0
Passes f = (side_ok f.bid ≡ true) × (side_ok f.offer ≡ true)

-- each is at the trade's second or later
abbrev pub AllLate : ℕ → List Posted → Type 0
AllLate t [] = Unit {0}
AllLate t (q ∷ qs) = (t ≤ q.time.0) × AllLate t qs

-- each is overtaken: among what comes after them there is a quote of its exchange strictly before the trade
abbrev pub AllOvertaken : ℕ → List Posted → List Posted → Type 0
AllOvertaken t [] after = Unit {0}
AllOvertaken t (q ∷ qs) after = ((p : Posted) × (last_of q.exchange (earlier t after) ≡ Some p)) × AllOvertaken t qs after

-- a whole number of records
abbrev pub Whole : List ℕ → Type 0
Whole s = length s % 28 ≡ 0

-- a price that is none, or no better than the other: a bid at most, an offer at least that; where there is one there is the other
abbrev pub NoBetter : Half → Price → Price → Type 0
NoBetter h None r = Unit {0}
NoBetter h (Some a) None = ⊥
NoBetter Bid (Some a) (Some b) = a.0 ≤ b.0
NoBetter Offer (Some a) (Some b) = b.0 ≤ a.0

-- a walk over the list ps ++ qs, from its end back, that reads n quotes: if qs are fewer, they do not make all sixteen known; if they are as many, they
-- do, or there is nothing before them
abbrev pub StopsAt : List Posted → List Posted → ℕ → Type 0
StopsAt ps qs n = (length qs < n → all_known (lasts qs) ≡ false) × (length qs ≡ n → (ps ≡ []) ⊎ (all_known (lasts qs) ≡ true))
