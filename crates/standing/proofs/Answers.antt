-- What a lookup finds is what its text speaks of, and what is printed of it.
use Prim.Native.Nat.{ℕ, ◌+◌, ◌≤◌}
use mathlib.Core.Path.{◌≡◌, sym, ap, ◌∙◌}
use mathlib.Core.List.{List}
use native.Mathlib.Omega.{arith}
use lib.ListN.{length, take}
use lib.Seq.{length-take-le}
use borrow.Author.Tests.{eq-eqb, ne_eqb}
use Rattle.wire.specs.Laid.{laid}
use Rattle.wire.proofs.Rows.{Ran}
use Rattle.text.specs.Text.{laid_at}
use Rattle.text.proofs.Placed.{ran_next}
use Rattle.quotes.specs.Quotes.{posted_in, quotes_refusal_of}
use Rattle.earlier.specs.Earlier.{earlier, count_of, quotes_before_of}
use Rattle.earlier.proofs.Number.{before_most, before_count}
use Rattle.best.specs.Examined.{examined_in}
use Rattle.best.specs.Found.{best_in, found_in, found_of}
use Rattle.best.specs.Looked.{looked_in, looked_of}
use Rattle.best.proofs.Own.{found_number, own_looked, own_found, own_most}
use Rattle.standing.specs.Words.{Bid, Offer, Found, Looked}
use Rattle.standing.specs.Standing.{born_text, before_line, read_line, standing_text, lookup_line, found_text}

module _ (s : List ℕ) (t : ℕ) where
  -- l is what was looked up with the number of these quotes
  module _ (n : ℕ) (own : n ≡ quotes_before_of s t) (l : Looked) (e : l ≡ looked_of s t n) where
    same_found : l.found ≡ found_of s t
    same_found = rw (e, own) (own_found s t)

    pub text_refused : (l.found.refusal ≡ 0 → ⊥) → found_text s t ≡ lookup_line l.found.refusal
    unfolding found_text
    text_refused h = simp (← same_found, ne_eqb l.found.refusal 0 h)

    -- neither number is above 2,000
    pub both_few : (n ≤ 2000) × (l.examined ≤ 2000)
    both_few = (rw own (before_most s t), rw (e, own) (own_most s t))

    module _ (h : l.found.refusal ≡ 0) where
      good : quotes_refusal_of s t ≡ 0
      good = sym (found_number s t) ∙ ap (λ (f : Found). f.refusal) (sym same_found) ∙ h

      text_found : found_text s t ≡ standing_text t (earlier t (posted_in s))
      unfolding found_text
      text_found = simp (eq-eqb (found_of s t).refusal 0 (found_number s t ∙ good))

      all_found : l ≡ looked_in (earlier t (posted_in s))
      all_found = rw (e, own) (own_looked s t good)

      -- both halves are the best among the quotes before, and so many of them were read
      halves_found : (l.found.bid ≡ best_in Bid (earlier t (posted_in s))) × (l.found.offer ≡ best_in Offer (earlier t (posted_in s)))
      unfolding looked_in found_in
      halves_found = (ap (λ (x : Looked). x.found.bid) all_found, ap (λ (x : Looked). x.found.offer) all_found)

      numbers_found : (l.examined ≡ examined_in (earlier t (posted_in s))) × (n ≡ count_of s t)
      unfolding looked_in
      numbers_found = (ap (λ (x : Looked). x.examined) all_found, own ∙ sym (before_count s t good))

      -- the first line, then the two halves, then the count, one after the other
      pub whole_found : (o m m' m'' m''' : List ℕ) (k k' k'' k''' : ℕ) → Ran (before_line t) o k m
          → (k' ≡ k + length (born_text Bid l.found.bid (earlier t (posted_in s)))) × (m' ≡ laid_at k (born_text Bid l.found.bid (earlier t (posted_in s))) m)
          → (k'' ≡ k' + length (born_text Offer l.found.offer (earlier t (posted_in s)))) × (m'' ≡ laid_at k' (born_text Offer l.found.offer (earlier t (posted_in s))) m')
          → (k''' ≡ k'' + length (read_line l.examined n)) × (m''' ≡ laid_at k'' (read_line l.examined n) m'')
          → Ran (found_text s t) o k''' m'''
      unfolding standing_text
      whole_found o m m' m'' m''' k k' k'' k''' r a b c =
          let halves = halves_found in
          let numbers = numbers_found in
          let r2 = ran_next _ _ _ _ _ _ _ r a.0 a.1 in
          let r3 = ran_next _ _ _ _ _ _ _ r2 b.0 b.1 in
          let r4 = ran_next _ _ _ _ _ _ _ r3 c.0 c.1 in
          rw (text_found, ← halves.0, ← halves.1, ← numbers.0, ← numbers.1) r4

-- what is printed, and what whoever writes the first k bytes out must know of them
pub printed : (w l m : List ℕ) (k : ℕ) → Ran w l k m → length w ≤ length m
    → ((k ≡ length w) × (m ≡ laid w l)) × ((k ≤ length m) × (k ≡ length (take k m)))
printed w l m k r h = let n : k ≤ length m = omega (arith, r.0) in (r, (n, sym (length-take-le k m n)))
