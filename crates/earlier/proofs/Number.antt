-- The number of quotes strictly before the trade: the first so many are they, and two quotes tell whether a number is theirs.
use Prim.Native.Nat.{ℕ, zero, suc, ◌-◌, ◌≤◌, ◌<◌}
use mathlib.Core.Path.{◌≡◌, refl, sym, ap, ◌∙◌}
use mathlib.Core.Bool.{Bool, true, false, ◌&&◌, true≢false}
use mathlib.Core.List.{List}
use native.Mathlib.Omega.{arith}
use lib.Dec.{ltb, leb, eqb}
use borrow.Author.Tests.{lt-ltb, le-leb, lt-leb, ltb-true, leb-true, leb-false, eqb-true, eq-eqb, ne_eqb}
use Rattle.wire.proofs.Tests.{either}
use Rattle.quotes.specs.declared.Posted.{Posted}
use Rattle.quotes.specs.Quotes.{posted_at, posted_from, posted_in, quotes_in, rising, quotes_refusal_of}
use Rattle.quotes.proofs.Accepted.{time_at, all_rising, few_quotes}
use Rattle.earlier.specs.Earlier.{earlier, count_of, number_ok, quotes_before_of}
use Rattle.earlier.specs.Held.{ends_before, next_is_late}
use Rattle.earlier.proofs.Between.{cut, met}

not_lt : (a b : ℕ) → (b < a → ⊥) → a ≤ b
not_lt a b f = by (leb a b) refl where
  by : (x : Bool) → leb a b ≡ x → a ≤ b
  by true e = leb-true a b e
  by false e = absurd (f (leb-false a b e))

module _ (s : List ℕ) (t : ℕ) (ordered : rising (posted_in s) ≡ true) where
  pub count_most : count_of s t ≤ quotes_in s
  count_most = (cut s t ordered).within.1

  -- a right number leaves both tests true
  ends_holds : (n : ℕ) → n ≤ count_of s t → ends_before s t n ≡ true
  ends_holds zero l = refl
  ends_holds (suc k) l = lt-ltb (time_at s k) t ((cut s t ordered).before k (omega arith))

  next_holds : (n : ℕ) → count_of s t ≤ n → next_is_late s t n ≡ true
  unfolding next_is_late
  next_holds n l =
      either (λ b. b ≡ true) (leb (quotes_in s) n) true (leb t (time_at s n)) (λ e. refl)
      (λ e. le-leb t (time_at s n) ((cut s t ordered).late n l (leb-false (quotes_in s) n e)))

  -- and the tests leave one number
  ends_right : (n : ℕ) → ends_before s t n ≡ true → n ≤ quotes_in s → n ≤ count_of s t
  ends_right zero e l = omega arith
  ends_right (suc k) e l =
      not_lt (suc k) (count_of s t) (λ g. omega (arith, ltb-true (time_at s k) t e, (cut s t ordered).late k (omega arith) (omega arith)))

  next_right : (n : ℕ) → next_is_late s t n ≡ true → count_of s t ≤ n
  unfolding next_is_late
  next_right n e =
      not_lt (count_of s t) n
      (λ g. let l : leb (quotes_in s) n ≡ false = lt-leb (quotes_in s) n (omega (arith, count_most)) in
      let k : leb t (time_at s n) ≡ true = rw l at e in
      omega (arith, leb-true t (time_at s n) k, (cut s t ordered).before n g))

  module _ (n : ℕ) where
    -- the first n quotes, where that is their number
    pub counted_first : number_ok s t n ≡ true → posted_from s 0 n ≡ earlier t (posted_in s)
    unfolding number_ok
    counted_first e = ap (posted_from s 0) (eqb-true n (count_of s t) e) ∙ met s t (count_of s t) (count_of s t) (cut s t ordered) (omega arith)

    pub counted_within : number_ok s t n ≡ true → n ≤ quotes_in s
    unfolding number_ok
    counted_within e = omega (arith, eqb-true n (count_of s t) e, count_most)

    pub too_many : quotes_in s < n → false ≡ number_ok s t n
    unfolding number_ok
    too_many l = sym (ne_eqb n (count_of s t) (λ e. omega (arith, count_most)))

    tells : (x y : Bool) → ends_before s t n ≡ x → next_is_late s t n ≡ y → n ≤ quotes_in s → (x && y) ≡ number_ok s t n
    unfolding number_ok
    tells true true a b l = sym (eq-eqb n (count_of s t) (omega (arith, ends_right n a l, next_right n b)))
    tells true false a b l = sym (ne_eqb n (count_of s t) (λ e. true≢false (sym (next_holds n (omega arith)) ∙ b)))
    tells false y a b l = sym (ne_eqb n (count_of s t) (λ e. true≢false (sym (ends_holds n (omega arith)) ∙ a)))

    pub by_two : n ≤ quotes_in s → (ends_before s t n && next_is_late s t n) ≡ number_ok s t n
    by_two l = tells _ _ refl refl l

-- the test of the last of n quotes, as the code has it
pub ends_test : (s : List ℕ) (t n : ℕ) (q : Posted) → (n ≡ 0 → ⊥) → q ≡ posted_at s (n - 1) → ltb q.time.0 t ≡ ends_before s t n
ends_test s t zero q h e = absurd (h refl)
ends_test s t (suc k) q h e = let d : suc k - 1 ≡ k = omega arith in rw (e, d)

-- ---- the number for who has tested nothing
module _ (s : List ℕ) (t : ℕ) where
  pub before_none : (n : ℕ) → n ≡ quotes_refusal_of s t → (n ≡ 0 → ⊥) → 0 ≡ quotes_before_of s t
  unfolding quotes_before_of
  before_none n e h = rw (← e, ne_eqb n 0 h)

  pub before_count : quotes_refusal_of s t ≡ 0 → count_of s t ≡ quotes_before_of s t
  unfolding quotes_before_of
  before_count h = simp (eq-eqb (quotes_refusal_of s t) 0 h)

  -- no more than there can be
  pub before_most : quotes_before_of s t ≤ 2000
  unfolding quotes_before_of
  before_most =
      either (λ n. n ≤ 2000) (eqb (quotes_refusal_of s t) 0) (count_of s t) 0
      (λ e. let h = eqb-true (quotes_refusal_of s t) 0 e in omega (arith, count_most s t (all_rising s t h), few_quotes s t h))
      (λ e. omega arith)

  -- it is the right one, wherever one is asked for
  pub before_right : quotes_refusal_of s t ≡ 0 → number_ok s t (quotes_before_of s t) ≡ true
  unfolding number_ok
  before_right h = eq-eqb (quotes_before_of s t) (count_of s t) (sym (before_count h))
