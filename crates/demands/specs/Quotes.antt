-- The best bid and offer of the exchanges' quotes (RULE R16.1 to R16.9, R16.13): what the quotes alone decide, what that does not depend on, and what is
-- printed of it. What a lookup answers, which brings the number of quotes before the trade, stands in Counted.
use Rattle.std.specs.Prelude.{ℕ, ◌+◌, ◌≤◌, min, ◌≡◌, ◌⊎◌, List, ◌++◌, length, ltb, Some}
use Rattle.std.proofs.Common.{sym, ◌∙◌, ⊎_elim}
use contract.Lifetimes.{Lfts}
use Rattle.std.specs.Borrow.{Bor, MutBor}
use Rattle.facts.specs.declared.Mills.{Mills}
use Rattle.facts.specs.Words.{Price}
use Rattle.halves.specs.declared.Half.{Half}
use Rattle.halves.specs.declared.Half.TheVariants.{Bid, Offer}
use Rattle.quotes.specs.declared.Posted.{Posted}
use Rattle.quotes.specs.Quotes.{posted_in, quote_tests, quotes_refusal_of}
use Rattle.quotes.proofs as quotes
use Rattle.halves.specs.Halves.{same}
use Rattle.best.specs.declared.Found.{Found}
use Rattle.best.specs.Words.{Last}
use Rattle.earlier.specs.Earlier.{earlier}
use Rattle.best.specs.Lasts.{last_of, lasts}
use Rattle.best.specs.Best.{said_by, best_of}
use Rattle.best.specs.Found.{best_in, found_in, refused, found_of}
use Rattle.best.proofs as best
use Rattle.spelling.specs.Times.{time_in, time_text}
use Rattle.spelling.proofs as spelling
use Rattle.standing.specs.Standing.{sayer_of, sizes_shown, best_text}
use Rattle.standing.proofs as standing
use Rattle.lookups.specs.Lookups.{Passes, AllLate, AllOvertaken, Whole, NoBetter}
use Rattle.lookups.proofs as lookups
use Rattle.demands.specs.Ends.{quote_numbers, Told}
use Rattle.demands.specs.Demand2.{Said}
use Rattle.demands.specs.Why as why

-- ---- demand 1: nothing is asked, and every byte string and every time gets a result or one of 20 to 23
pub nothing_asked : (κ : Lfts 1) (κs : Lfts 3) (s w : Bor (List ℕ)) (b : MutBor (List ℕ)) (t e : ℕ)
    → quotes.check_quotes.Reads.Asked κ (s, (t, tt))
    × best.last_before.Reads.Asked κ (s, (t, (e, tt)))
    × standing.print_best.Reads.Asked κs (s, (w, (b, tt)))
nothing_asked κ κs s w b t e = (tt, tt, tt)

pub lookup_told : (s : List ℕ) (t : ℕ) → Told quote_numbers (found_of s t).refusal
unfolding quotes_refusal_of
lookup_told s t = rw (best.Own.found_number s t) (why.told (quote_tests s t))

-- Beside a number stand none and none, with sizes of 0.
pub refused_none : (s : List ℕ) (t : ℕ) → ((found_of s t).refusal ≡ 0 → ⊥) → found_of s t ≡ refused (found_of s t).refusal
refused_none = lookups.Looked.refused_none

-- ---- demand 2: whatever the promise allows is the definition's answer

-- Where no test fails that is the best bid and offer among the quotes strictly before the trade.
pub good_found : (s : List ℕ) (t : ℕ) → (found_of s t).refusal ≡ 0 → found_of s t ≡ found_in (earlier t (posted_in s))
good_found = lookups.Looked.good_found

-- The best: no exchange's last quote before the trade is better, and where there is a best price, it is one of theirs.
abbrev pub said : Half → List ℕ → ℕ → ℕ → Price
said h s t e = (said_by h (last_of e (earlier t (posted_in s)))).price

abbrev pub BestOfSixteen : Half → List ℕ → ℕ → Price → Type 0
BestOfSixteen h s t best =
    ((e : ℕ) → 1 ≤ e → e ≤ 16 → NoBetter h (said h s t e) best) × ((m : Mills) → best ≡ Some m → (e : ℕ) × (1 ≤ e) × (e ≤ 16) × (said h s t e ≡ Some m))

abbrev pub Best : List ℕ → ℕ → Found → Type 0
Best s t f = BestOfSixteen Bid s t f.bid.price × BestOfSixteen Offer s t f.offer.price

pub found_is_best : (s : List ℕ) (t : ℕ) → (found_of s t).refusal ≡ 0 → Best s t (found_of s t)
unfolding found_in best_of
found_is_best s t good = rw (good_found s t good) (why.best_of_sixteen Bid (earlier t (posted_in s)), why.best_of_sixteen Offer (earlier t (posted_in s)))

-- ---- what is found always passes the tests 5 and 6, refused or not
pub found_passes : (s : List ℕ) (t : ℕ) → Passes (found_of s t)
found_passes = lookups.Fit.found_passes

-- ---- so every call of `check_quotes` and `last_before`
module _ (κ : Lfts 1) (s s' : Bor (List ℕ)) (t t' : ℕ) where
  -- `check_quotes` tells the number alone.
  pub check_quotes_says : (r : ℕ) → quotes.check_quotes.Reads.Post κ (s, (t, tt)) r (s', (t', tt)) → r ≡ (found_of s.now t).refusal
  check_quotes_says r p = p ∙ sym (best.Own.found_number s.now t)

  -- `last_before` tells what one exchange last sent.
  pub last_before_says : (e e' : ℕ) (r : Last) → best.last_before.Reads.Post κ (s, (t, (e, tt))) r (s', (t', (e', tt))) → r ≡ last_of e (earlier t (posted_in s.now))
  last_before_says e e' r p = p

-- ---- quotes that change nothing: records r between the records a and b of a list that is not refused, all of them at the second of the trade or
-- later, or all of them overtaken
abbrev pub ChangesNothing : List ℕ → List ℕ → List ℕ → ℕ → Type 0
ChangesNothing a r b t = AllLate t (posted_in r) ⊎ AllOvertaken t (posted_in r) (posted_in b)

module _ (a r b : List ℕ) (t : ℕ) (wa : Whole a) (wr : Whole r) (good : (found_of (a ++ (r ++ b)) t).refusal ≡ 0) where
  -- A quote at the second of the trade or later changes nothing.
  pub late_nothing : AllLate t (posted_in r) → found_of (a ++ (r ++ b)) t ≡ found_of (a ++ b) t
  late_nothing = lookups.Nothing.late_bytes a r b t wa wr good

  -- Of one exchange only the last before the trade matters: a quote that another of its exchange follows before the trade changes nothing.
  pub overtaken_nothing : AllOvertaken t (posted_in r) (posted_in b) → found_of (a ++ (r ++ b)) t ≡ found_of (a ++ b) t
  overtaken_nothing = lookups.Nothing.overtaken_bytes a r b t wa wr good

  -- Either way.
  pub same_found : ChangesNothing a r b t → found_of (a ++ (r ++ b)) t ≡ found_of (a ++ b) t
  same_found = ⊎_elim late_nothing overtaken_nothing

-- Two lists in which each of the sixteen exchanges last sent the same before the trade give the same.
pub only_the_last : (s u : List ℕ) (t : ℕ) → (found_of s t).refusal ≡ 0 → (found_of u t).refusal ≡ 0
    → lasts (earlier t (posted_in s)) ≡ lasts (earlier t (posted_in u)) → found_of s t ≡ found_of u t
only_the_last s u t gs gu h = good_found s t gs ∙ lookups.Nothing.found_same _ _ h ∙ sym (good_found u t gu)

-- ---- whose price it is: what is printed for people

-- Exchange e has a line under the best price exactly where its last quote before the trade is at it; and the sizes in those lines sum to the
-- size of the best, or to more than 1,000,000 where that is what is told.
pub shown_at_best : (h : Half) (qs : List Posted) (k : ℕ) → ltb 0 (length (sayer_of h (best_in h qs).price qs k)) ≡ same (best_in h qs).price (said_by h (last_of (k + 1) qs)).price
shown_at_best = standing.Lasting.shown_at_best

pub size_shown : (h : Half) (qs : List Posted) → (best_in h qs).size.0 ≡ min (sizes_shown h (best_in h qs).price (lasts qs)) 1000000
size_shown = standing.Sums.size_shown

-- The quote that is shown for an exchange is that exchange's.
pub own_quote : (e : ℕ) (qs : List Posted) (q : Posted) → last_of e qs ≡ Some q → q.exchange ≡ e
own_quote = standing.Lasting.own_quote

-- A time of day, spelt as it is shown and typed again, is the same second.
pub time_back : (n : ℕ) → n ≤ 86399 → time_in (time_text n) ≡ Some n
time_back = spelling.Times.time_back

-- No text is longer than the buffer of 4,096 bytes.
pub text_fits : (s w : List ℕ) → length (best_text s (time_in w)) ≤ 4096
text_fits s w = standing.Lengths.text_most s (time_in w)

-- So every call of `print_best`: the text stands over the start of the buffer, every byte after it is kept, and its length is answered.
pub print_best_says : (κs : Lfts 3) (s s' w w' : Bor (List ℕ)) (out out' : MutBor (List ℕ)) (r : ℕ) → standing.print_best.Reads.Post κs (s, (w, (out, tt))) r (s', (w', (out', tt)))
    → let text = best_text s.now (time_in w.now) in Said (length text) text r out.now out'.now × (r ≤ 4096)
print_best_says κs s s' w w' out out' r p = (p.0, rw p.0.0 (text_fits s.now w.now))
