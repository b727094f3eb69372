-- The records that are left from record k on, of n: none, or one and those after it; the pass over them, and the tests before and after it.
use Prim.Native.Nat.{ℕ, zero, suc, ◌+◌, ◌-◌, ◌*◌, ◌≤◌, ◌<◌}
use mathlib.Core.Path.{◌≡◌, refl, sym, ap, ◌∙◌}
use mathlib.Core.Bool.{Bool, true, false, ◌&&◌, and_assoc, and-true}
use mathlib.Core.List.{List, [], ◌∷◌}
use native.Mathlib.Numerals.{add-one}
use native.Mathlib.Omega.{arith}
use lib.Dec.{leb, eqb}
use lib.ListN.{length}
use borrow.Author.Tests.{ne_eqb}
use Rattle.wire.specs.Numbers.{number_at}
use Rattle.wire.specs.Tests.{pick}
use Rattle.wire.proofs.Tests.{first_append}
use Rattle.quotes.specs.Quotes.{posted_at, posted_from, quotes_in, posted_in, whole_quotes, record_ok, records_ok, rising_from, rising, quotes_refusal_of, list_fault_of}

pub all_left : (n : ℕ) → n - 0 ≡ n
all_left n = omega arith

pub none_left : (n k : ℕ) → n ≤ k → n - k ≡ 0
none_left n k h = omega arith

pub one_left : (n k : ℕ) → k < n → n - k ≡ suc (n - suc k)
one_left n k h = omega arith

pub posted_length : (s : List ℕ) (n k : ℕ) → length (posted_from s k n) ≡ n
unfolding posted_from
posted_length s zero k = refl
posted_length s (suc n) k = ap suc (posted_length s n (suc k))

module _ (s : List ℕ) (n k : ℕ) where
  pub posted_none : n ≤ k → posted_from s k (n - k) ≡ []
  unfolding posted_from
  posted_none h = rw (none_left n k h)

  records_done : n ≤ k → records_ok s k (n - k) ≡ true
  unfolding records_ok
  records_done h = rw (none_left n k h)

  rising_done : (t : ℕ) → n ≤ k → rising_from t (posted_from s k (n - k)) ≡ true
  unfolding posted_from rising_from
  rising_done t h = rw (none_left n k h)

  module _ (h : k < n) where
    pub posted_left : posted_from s k (n - k) ≡ posted_at s k ∷ posted_from s (k + 1) (n - (k + 1))
    unfolding posted_from
    posted_left = rw (one_left n k h, add-one)

    -- the next is bad, or those after it decide
    records_here : record_ok s k ≡ false → records_ok s k (n - k) ≡ false
    unfolding records_ok
    records_here e = rw (one_left n k h) (simp e)

    records_past : record_ok s k ≡ true → records_ok s (k + 1) (n - (k + 1)) ≡ records_ok s k (n - k)
    unfolding records_ok
    records_past e = rw (one_left n k h, add-one) (simp e)

    -- t is the next's time
    rising_past : (r : Bool) (e t : ℕ) → t ≡ number_at 4 s (k * 28 + 8)
        → ((r && leb e t) && rising_from t (posted_from s (k + 1) (n - (k + 1)))) ≡ (r && rising_from e (posted_from s k (n - k)))
    unfolding rising_from posted_at
    rising_past r e t is = rw (posted_left, ← is) (and_assoc r (leb e t) _)

-- ---- the pass over all records: those from record k on are left
module _ (s : List ℕ) (k : ℕ) where
  -- whether no field is bad is decided by those that are left
  module _ (fields : records_ok s k (quotes_in s - k) ≡ records_ok s 0 (quotes_in s)) where
    pub bad_record : k < quotes_in s → record_ok s k ≡ false → 21 ≡ list_fault_of s
    unfolding list_fault_of
    bad_record h e = rw (sym fields ∙ records_here s (quotes_in s) k h e)

    -- r: whether the times rose so far; t: the time before
    module _ (r : Bool) (e : ℕ) (times : (r && rising_from e (posted_from s k (quotes_in s - k))) ≡ rising (posted_in s)) where
      pub good_record : k < quotes_in s → record_ok s k ≡ true → (t : ℕ) → t ≡ number_at 4 s (k * 28 + 8)
          → (records_ok s (k + 1) (quotes_in s - (k + 1)) ≡ records_ok s 0 (quotes_in s))
          × (((r && leb e t) && rising_from t (posted_from s (k + 1) (quotes_in s - (k + 1)))) ≡ rising (posted_in s))
      good_record h ok t is = (records_past s (quotes_in s) k h ok ∙ fields, rising_past s (quotes_in s) k h r e t is ∙ times)

      pub all_records : quotes_in s ≤ k → (n : ℕ) → n ≡ pick r 0 22 → n ≡ list_fault_of s
      unfolding list_fault_of
      all_records h n is =
          let ok : records_ok s 0 (quotes_in s) ≡ true = sym fields ∙ records_done s (quotes_in s) k h in
          let rose : rising (posted_in s) ≡ r = sym times ∙ ap (λ (b : Bool). r && b) (rising_done s (quotes_in s) k e h) ∙ and-true r in
          rw (ok, rose) is

-- ---- all four: 20, the pass, 23
module _ (s : List ℕ) (t : ℕ) where
  pub not_whole : whole_quotes s ≡ false → 20 ≡ quotes_refusal_of s t
  unfolding quotes_refusal_of
  not_whole h = rw h

  in_middle : whole_quotes s ≡ true → quotes_refusal_of s t ≡ pick (eqb (list_fault_of s) 0) (pick (leb t 86399) 0 23) (list_fault_of s)
  unfolding quotes_refusal_of list_fault_of
  in_middle h = rw h (first_append ((21, records_ok s 0 (quotes_in s)) ∷ (22, rising (posted_in s)) ∷ []) ((23, leb t 86399) ∷ []) (refl, (refl, tt)))

  pub list_refused : whole_quotes s ≡ true → (n : ℕ) → n ≡ list_fault_of s → (n ≡ 0 → ⊥) → n ≡ quotes_refusal_of s t
  list_refused h n is some = sym (in_middle h ∙ rw (← is, ne_eqb n 0 some))

  pub time_tells : whole_quotes s ≡ true → (n : ℕ) → n ≡ list_fault_of s → n ≡ 0 → (m : ℕ) → m ≡ pick (leb t 86399) 0 23 → m ≡ quotes_refusal_of s t
  time_tells h n is none m im = im ∙ sym (in_middle h ∙ rw (← is, none))
