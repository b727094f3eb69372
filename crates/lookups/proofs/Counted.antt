-- What a lookup answers with the number that is brought.
use Prim.Native.Nat.{ℕ, ◌≤◌}
use mathlib.Core.Path.{◌≡◌, refl, sym, ap, ◌∙◌}
use mathlib.Core.Bool.{Bool, true, false}
use mathlib.Core.List.{List, [], ◌++◌}
use native.Mathlib.Omega.{arith}
use lib.Dec.{eqb}
use lib.ListN.{length}
use borrow.Author.Tests.{eqb-true, eqb-false, eq-eqb, ne_eqb}
use Rattle.wire.specs.Tests.{pick}
use Rattle.wire.proofs.Tests.{either}
use Rattle.quotes.specs.Quotes.{posted_in, quotes_refusal_of}
use Rattle.earlier.specs.Earlier.{earlier, count_of, number_ok, quotes_before_of}
use Rattle.earlier.proofs.Number.{before_count}
use Rattle.best.specs.Words.{Posted}
use Rattle.best.specs.declared.Looked.{Looked}
use Rattle.best.specs.Lasts.{lasts}
use Rattle.best.specs.Examined.{all_known}
use Rattle.best.specs.Found.{found_in, found_of}
use Rattle.best.specs.Looked.{look_refusal_of, looked_in, unread, looked_of}
use Rattle.best.proofs.Answers.{look_number, looked_refused, looked_wrong, looked_right}
use Rattle.best.proofs.Own.{found, found_refused, looked_most}
use Rattle.lookups.proofs.Fit.{refused_passes, found_passes}
use Rattle.lookups.proofs.Joined.{joined_posted}
use Rattle.lookups.proofs.Fewer.{still_good}
use Rattle.lookups.proofs.Nothing.{earlier_append, late_nothing}
use Rattle.lookups.proofs.Walk.{all_known_same, not_reached}
use Rattle.lookups.specs.Lookups.{Passes, AllLate, Whole}

pub in_refusal : (qs : List Posted) → (looked_in qs).found.refusal ≡ 0
unfolding looked_in found_in
in_refusal qs = refl

module _ (s : List ℕ) (t n : ℕ) where
  pub looked_number : (looked_of s t n).found.refusal ≡ look_refusal_of s t n
  unfolding looked_of looked_in found_in
  looked_number =
      either (λ (l : Looked). l.found.refusal ≡ look_refusal_of s t n) (eqb (look_refusal_of s t n) 0) (looked_in (earlier t (posted_in s))) (unread (look_refusal_of s t n))
      (λ e. sym (eqb-true (look_refusal_of s t n) 0 e)) (λ e. refl)

  -- beside a number nothing is found, and nothing was read
  pub refused_unread : ((looked_of s t n).found.refusal ≡ 0 → ⊥) → looked_of s t n ≡ unread (looked_of s t n).found.refusal
  unfolding looked_of looked_in found_in
  refused_unread h =
      either (λ (l : Looked). (l.found.refusal ≡ 0 → ⊥) → l ≡ unread l.found.refusal) (eqb (look_refusal_of s t n) 0) (looked_in (earlier t (posted_in s)))
      (unread (look_refusal_of s t n)) (λ e g. absurd (g refl)) (λ e g. refl) h

  -- ---- the tests 20 to 23 come first; then the number
  pub quotes_first : (quotes_refusal_of s t ≡ 0 → ⊥) → looked_of s t n ≡ unread (quotes_refusal_of s t)
  quotes_first h = sym (looked_refused s t n (quotes_refusal_of s t) refl h)

  pub wrong_number : quotes_refusal_of s t ≡ 0 → (n ≡ count_of s t → ⊥) → looked_of s t n ≡ unread 28
  unfolding number_ok
  wrong_number h other = sym (looked_wrong s t n h (ne_eqb n (count_of s t) other))

  pub right_number : quotes_refusal_of s t ≡ 0 → n ≡ count_of s t → looked_of s t n ≡ looked_in (earlier t (posted_in s))
  unfolding number_ok
  right_number h is = looked_right s t n h (eq-eqb n (count_of s t) is)

  -- ---- so an answer that is not refused has passed them
  module _ (good : (looked_of s t n).found.refusal ≡ 0) where
    none : pick (eqb (quotes_refusal_of s t) 0) (pick (number_ok s t n) 0 28) (quotes_refusal_of s t) ≡ 0
    none = sym (look_number s t n) ∙ sym looked_number ∙ good

    pub quotes_good : quotes_refusal_of s t ≡ 0
    quotes_good = by_test (eqb (quotes_refusal_of s t) 0) refl none where
      by_test : (b : Bool) → eqb (quotes_refusal_of s t) 0 ≡ b → pick b (pick (number_ok s t n) 0 28) (quotes_refusal_of s t) ≡ 0 → quotes_refusal_of s t ≡ 0
      by_test true e g = eqb-true (quotes_refusal_of s t) 0 e
      by_test false e g = g

    by_number : (b : Bool) → number_ok s t n ≡ b → ◌≡◌ {A = ℕ} (pick b 0 28) 0 → number_ok s t n ≡ true
    by_number true e g = e
    by_number false e g = let z : ⊥ = omega arith in absurd z

    pub number_good : n ≡ count_of s t
    unfolding number_ok
    number_good = eqb-true n (count_of s t) (by_number (number_ok s t n) refl (simp (eq-eqb (quotes_refusal_of s t) 0 quotes_good) at none))

    pub looked_good : looked_of s t n ≡ looked_in (earlier t (posted_in s))
    looked_good = right_number quotes_good number_good

    -- what is found is what the quotes alone decide
    pub looked_found : (looked_of s t n).found ≡ found_of s t
    unfolding looked_in
    looked_found = ap (λ (l : Looked). l.found) looked_good ∙ found s t quotes_good

  -- and so it is where they are refused: only 28 is not theirs
  pub but_for_28 : ((looked_of s t n).found.refusal ≡ 28 → ⊥) → (looked_of s t n).found ≡ found_of s t
  but_for_28 h = by_quotes (eqb (quotes_refusal_of s t) 0) (eqb n (count_of s t)) refl refl where
    by_quotes : (b c : Bool) → eqb (quotes_refusal_of s t) 0 ≡ b → eqb n (count_of s t) ≡ c → (looked_of s t n).found ≡ found_of s t
    by_quotes true true e f =
        let good = eqb-true (quotes_refusal_of s t) 0 e in
        looked_found (ap (λ (l : Looked). l.found.refusal) (right_number good (eqb-true n (count_of s t) f)) ∙ in_refusal (earlier t (posted_in s)))
    by_quotes true false e f = absurd (h (ap (λ (l : Looked). l.found.refusal) (wrong_number (eqb-true (quotes_refusal_of s t) 0 e) (eqb-false n (count_of s t) f))))
    by_quotes false c e f =
        let bad = eqb-false (quotes_refusal_of s t) 0 e in
        ap (λ (l : Looked). l.found) (quotes_first bad) ∙ found_refused s t (quotes_refusal_of s t) refl bad

  -- refused or not, it passes the tests 5 and 6
  pub looked_passes : Passes (looked_of s t n).found
  looked_passes = by_test (eqb (looked_of s t n).found.refusal 0) refl where
    by_test : (b : Bool) → eqb (looked_of s t n).found.refusal 0 ≡ b → Passes (looked_of s t n).found
    by_test true e = rw (looked_found (eqb-true (looked_of s t n).found.refusal 0 e)) (found_passes s t)
    by_test false e = rw (refused_unread (eqb-false (looked_of s t n).found.refusal 0 e)) (refused_passes (looked_of s t n).found.refusal)

  -- no more quotes are read than the number that was brought
  pub read_most : (looked_of s t n).examined ≤ n
  read_most = by_test (eqb (looked_of s t n).found.refusal 0) refl where
    by_test : (b : Bool) → eqb (looked_of s t n).found.refusal 0 ≡ b → (looked_of s t n).examined ≤ n
    by_test true e = let g = number_good (eqb-true (looked_of s t n).found.refusal 0 e) in omega (arith, looked_most s t n)
    by_test false e = let u = refused_unread (eqb-false (looked_of s t n).found.refusal 0 e) in rw u (omega arith)

-- ---- in bytes: the records a before the records b, in a list that is not refused
module _ (a b : List ℕ) (t n : ℕ) (wa : Whole a) (good : (looked_of (a ++ b) t n).found.refusal ≡ 0) where
  pub rest_good : quotes_refusal_of b t ≡ 0
  rest_good = still_good [] a b t refl wa (quotes_good (a ++ b) t n good)

  parts : earlier t (posted_in (a ++ b)) ≡ earlier t (posted_in a) ++ earlier t (posted_in b)
  parts = ap (earlier t) (joined_posted a b wa) ∙ earlier_append t (posted_in a) (posted_in b)

  from_lists : looked_in (earlier t (posted_in a) ++ earlier t (posted_in b)) ≡ looked_in (earlier t (posted_in b))
      → looked_of (a ++ b) t n ≡ looked_of b t (quotes_before_of b t)
  from_lists h =
      looked_good (a ++ b) t n good ∙ ap looked_in parts ∙ h
      ∙ sym (right_number b t (quotes_before_of b t) rest_good (sym (before_count b t rest_good)))

  -- the walk does not get to a
  pub not_reached_bytes : (looked_of (a ++ b) t n).examined ≤ count_of b t → looked_of (a ++ b) t n ≡ looked_of b t (quotes_before_of b t)
  unfolding looked_in
  not_reached_bytes h =
      from_lists (not_reached (earlier t (posted_in a)) (earlier t (posted_in b)) (rw (← parts) (rw (looked_good (a ++ b) t n good) at h)))

  -- all sixteen are known in b
  pub all_known_bytes : all_known (lasts (earlier t (posted_in b))) ≡ true → looked_of (a ++ b) t n ≡ looked_of b t (quotes_before_of b t)
  all_known_bytes h = from_lists (all_known_same (earlier t (posted_in a)) (earlier t (posted_in b)) h)

-- ---- records r between the records a and b, all of them at the second of the trade or later: the same number, and the same answer
module _ (a r b : List ℕ) (t n : ℕ) (wa : Whole a) (wr : Whole r) (good : (looked_of (a ++ (r ++ b)) t n).found.refusal ≡ 0) where
  pub late_looked : AllLate t (posted_in r) → looked_of (a ++ (r ++ b)) t n ≡ looked_of (a ++ b) t n
  late_looked h =
      let long = joined_posted a (r ++ b) wa ∙ ap (λ (l : List Posted). posted_in a ++ l) (joined_posted r b wr) in
      let same : earlier t (posted_in (a ++ (r ++ b))) ≡ earlier t (posted_in (a ++ b))
      = ap (earlier t) long ∙ late_nothing t (posted_in a) (posted_in r) (posted_in b) h ∙ ap (earlier t) (sym (joined_posted a b wa)) in
      looked_good (a ++ (r ++ b)) t n good ∙ ap looked_in same
      ∙ sym (right_number (a ++ b) t n (still_good a r b t wa wr (quotes_good (a ++ (r ++ b)) t n good))
      (number_good (a ++ (r ++ b)) t n good ∙ ap length same))
