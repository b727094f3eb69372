-- What `looked_of` is, by the tests that lead there.
use Prim.Native.Nat.{ℕ}
use mathlib.Core.Path.{◌≡◌, refl, sym, ap, ◌∙◌}
use mathlib.Core.Bool.{true, false}
use mathlib.Core.List.{List, [], ◌∷◌}
use lib.Dec.{eqb}
use borrow.Author.Tests.{eq-eqb, ne_eqb}
use Rattle.wire.specs.Tests.{pick}
use Rattle.wire.proofs.Tests.{first_append}
use Rattle.quotes.specs.Quotes.{posted_from, posted_in, quote_tests, quotes_refusal_of}
use Rattle.quotes.proofs.Accepted.{all_rising}
use Rattle.earlier.specs.Earlier.{earlier, count_of, number_ok, quotes_before_of}
use Rattle.earlier.proofs.Number.{counted_first, before_count, before_right}
use Rattle.best.specs.Words.{Quote, Bid, Offer, Looked}
use Rattle.best.specs.Best.{best_of}
use Rattle.best.specs.Places.{said, Walked}
use Rattle.best.specs.Found.{found_in}
use Rattle.best.specs.Looked.{look_refusal_of, looked_in, unread, looked_of}

-- the first n quotes: what is said at the places where the walk over them ends
pub answered : (n : ℕ) (s places : List ℕ) (read : ℕ) (b o : Quote) → Walked s n places read
    → b ≡ best_of Bid (said Bid s places) → o ≡ best_of Offer (said Offer s places)
    → ◌≡◌ {A = Looked} (record { found = record { refusal = 0; bid = b; offer = o }; examined = read }) (looked_in (posted_from s 0 n))
unfolding found_in looked_in
answered n s places read b o w eb eo = rw (← w.last, ← w.read, eb, eo)

module _ (s : List ℕ) (t : ℕ) (m : ℕ) where
  -- 28 is asked after the others
  pub look_number : look_refusal_of s t m ≡ pick (eqb (quotes_refusal_of s t) 0) (pick (number_ok s t m) 0 28) (quotes_refusal_of s t)
  unfolding look_refusal_of quotes_refusal_of
  look_number = first_append (quote_tests s t) ((28, number_ok s t m) ∷ []) (refl, (refl, (refl, (refl, tt))))

  pub looked_refused : (n : ℕ) → n ≡ quotes_refusal_of s t → (n ≡ 0 → ⊥) → unread n ≡ looked_of s t m
  unfolding looked_of
  looked_refused n e h =
      let r : look_refusal_of s t m ≡ n = look_number ∙ rw (← e, ne_eqb n 0 h) in
      rw (r, ne_eqb n 0 h)

  module _ (h : quotes_refusal_of s t ≡ 0) where
    pub looked_wrong : number_ok s t m ≡ false → unread 28 ≡ looked_of s t m
    unfolding looked_of
    looked_wrong d =
        let r : look_refusal_of s t m ≡ 28 = look_number ∙ simp (eq-eqb (quotes_refusal_of s t) 0 h, d) in
        rw r

    pub looked_right : number_ok s t m ≡ true → looked_of s t m ≡ looked_in (earlier t (posted_in s))
    unfolding looked_of
    looked_right d =
        let r : look_refusal_of s t m ≡ 0 = look_number ∙ simp (eq-eqb (quotes_refusal_of s t) 0 h, d) in
        rw r

    pub looked : number_ok s t m ≡ true → looked_in (posted_from s 0 m) ≡ looked_of s t m
    looked d = ap looked_in (counted_first s t (all_rising s t h) m d) ∙ sym (looked_right d)

-- with the number that was found first
module _ (s : List ℕ) (t : ℕ) (h : quotes_refusal_of s t ≡ 0) (n : ℕ) (is : n ≡ count_of s t) where
  pub right_number : number_ok s t n ≡ true
  right_number = rw (is ∙ before_count s t h) (before_right s t h)

  pub looked_own : looked_in (posted_from s 0 n) ≡ looked_of s t (quotes_before_of s t)
  looked_own = looked s t n h right_number ∙ ap (looked_of s t) (is ∙ before_count s t h)
