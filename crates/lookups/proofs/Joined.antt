-- The quotes of two byte strings, one after the other, and their test.
use Prim.Native.Nat.{ℕ, zero, suc, ◌+◌, ◌*◌, ◌%◌, ◌≤◌}
use mathlib.Core.Path.{◌≡◌, refl, sym, ap, ap₂, ◌∙◌}
use mathlib.Core.Bool.{◌&&◌, and_assoc}
use mathlib.Core.List.{List, ◌∷◌, ◌++◌}
use native.Mathlib.Nat.{add-zero, zero-add}
use native.Mathlib.Omega.{arith}
use lib.ListN.{length, get_or-append, length-append}
use lib.Seq.{get_or-append-add}
use Rattle.wire.specs.Numbers.{joined, elements_from, number_at}
use Rattle.best.specs.Words.{Posted}
use Rattle.quotes.specs.Quotes.{posted_at, posted_from, quotes_in, posted_in, is_quote, record_ok, records_ok}

-- ---- numbers in the first, numbers in the second
module _ (s r : List ℕ) where
  first_elements : (w i k : ℕ) → i + k + w ≤ length s → elements_from w (s ++ r) i k ≡ elements_from w s i k
  first_elements zero i k h = refl
  first_elements (suc w) i k h = ap₂ ◌∷◌ (get_or-append s r 0 (i + k) (omega arith)) (first_elements w i (suc k) (omega arith))

  second_elements : (w i k : ℕ) → elements_from w (s ++ r) (length s + i) k ≡ elements_from w r i k
  second_elements zero i k = refl
  second_elements (suc w) i k =
      let e : length s + i + k ≡ length s + (i + k) = omega arith in
      ap₂ ◌∷◌ (rw e (get_or-append-add s r (i + k) 0)) (second_elements w i (suc k))

  first_number : (w i : ℕ) → i + w ≤ length s → number_at w (s ++ r) i ≡ number_at w s i
  unfolding number_at
  first_number w i h = ap joined (first_elements w i 0 (omega arith))

  second_number : (w i j : ℕ) → j ≡ length s + i → number_at w (s ++ r) j ≡ number_at w r i
  unfolding number_at
  second_number w i j e = rw e (ap joined (second_elements w i 0))

  -- ---- records
  first_posted : (k : ℕ) → k * 28 + 28 ≤ length s → posted_at (s ++ r) k ≡ posted_at s k
  unfolding posted_at
  first_posted k h =
      let at : (i : ℕ) → i ≤ 24 → number_at 4 (s ++ r) (k * 28 + i) ≡ number_at 4 s (k * 28 + i) = λ i l. first_number 4 (k * 28 + i) (omega arith) in
      simp (at 4 (omega arith), at 8 (omega arith), at 12 (omega arith), at 16 (omega arith), at 20 (omega arith), at 24 (omega arith))

  second_posted : (m k : ℕ) → length s ≡ m * 28 → posted_at (s ++ r) (m + k) ≡ posted_at r k
  unfolding posted_at
  second_posted m k h =
      let at : (i : ℕ) → number_at 4 (s ++ r) ((m + k) * 28 + i) ≡ number_at 4 r (k * 28 + i) = λ i. second_number 4 (k * 28 + i) ((m + k) * 28 + i) (omega arith) in
      simp (at 4, at 8, at 12, at 16, at 20, at 24)

  first_record : (k : ℕ) → k * 28 + 28 ≤ length s → record_ok (s ++ r) k ≡ record_ok s k
  unfolding record_ok is_quote
  first_record k h = rw (first_number 2 (k * 28) (omega arith), first_number 2 (k * 28 + 2) (omega arith), first_posted k h)

  second_record : (m k : ℕ) → length s ≡ m * 28 → record_ok (s ++ r) (m + k) ≡ record_ok r k
  unfolding record_ok is_quote
  second_record m k h =
      rw (second_number 2 (k * 28) ((m + k) * 28) (omega arith), second_number 2 (k * 28 + 2) ((m + k) * 28 + 2) (omega arith), second_posted m k h)

  first_from : (n k : ℕ) → (k + n) * 28 ≤ length s → posted_from (s ++ r) k n ≡ posted_from s k n
  unfolding posted_from
  first_from zero k h = refl
  first_from (suc n) k h = ap₂ ◌∷◌ (first_posted k (omega arith)) (first_from n (suc k) (omega arith))

  second_from : (m n k : ℕ) → length s ≡ m * 28 → posted_from (s ++ r) (m + k) n ≡ posted_from r k n
  unfolding posted_from
  second_from m zero k h = refl
  second_from m (suc n) k h =
      let e : suc (m + k) ≡ m + suc k = omega arith in
      ap₂ ◌∷◌ (second_posted m k h) (rw e (second_from m n (suc k) h))

  first_records : (n k : ℕ) → (k + n) * 28 ≤ length s → records_ok (s ++ r) k n ≡ records_ok s k n
  unfolding records_ok
  first_records zero k h = refl
  first_records (suc n) k h = rw (first_record k (omega arith), first_records n (suc k) (omega arith))

  second_records : (m n k : ℕ) → length s ≡ m * 28 → records_ok (s ++ r) (m + k) n ≡ records_ok r k n
  unfolding records_ok
  second_records m zero k h = refl
  second_records m (suc n) k h =
      let e : suc (m + k) ≡ m + suc k = omega arith in
      rw (e, second_record m k h, second_records m n (suc k) h)

split : (s : List ℕ) (m n k : ℕ) → posted_from s k (m + n) ≡ posted_from s k m ++ posted_from s (k + m) n
unfolding posted_from
split s zero n k = rw (zero-add, add-zero)
split s (suc m) n k =
    let e : suc m + n ≡ suc (m + n) = omega arith in
    let f : k + suc m ≡ suc k + m = omega arith in
    rw (e, f) (ap (λ (l : List Posted). posted_at s k ∷ l) (split s m n (suc k)))

-- all of them, where the first is a whole number of records
pub joined_posted : (s r : List ℕ) → length s % 28 ≡ 0 → posted_in (s ++ r) ≡ posted_in s ++ posted_in r
joined_posted s r z =
    let m : length s ≡ quotes_in s * 28 = omega arith in
    let n : quotes_in (s ++ r) ≡ quotes_in s + quotes_in r = omega (arith, length-append s r) in
    let second : posted_from (s ++ r) (0 + quotes_in s) (quotes_in r) ≡ posted_in r
    = let e : 0 + quotes_in s ≡ quotes_in s + 0 = omega arith in rw e (second_from s r (quotes_in s) (quotes_in r) 0 m) in
    ap (posted_from (s ++ r) 0) n ∙ split (s ++ r) (quotes_in s) (quotes_in r) 0
    ∙ ap₂ ◌++◌ (first_from s r (quotes_in s) 0 (omega arith)) second

split_records : (s : List ℕ) (m n k : ℕ) → records_ok s k (m + n) ≡ (records_ok s k m && records_ok s (k + m) n)
unfolding records_ok
split_records s zero n k = rw (zero-add, add-zero)
split_records s (suc m) n k =
    let e : suc m + n ≡ suc (m + n) = omega arith in
    let f : k + suc m ≡ suc k + m = omega arith in
    rw (e, f, split_records s m n (suc k)) (sym (and_assoc (record_ok s k) (records_ok s (suc k) m) (records_ok s (suc k + m) n)))

-- the same of their test
pub joined_records : (s r : List ℕ) → length s % 28 ≡ 0
    → records_ok (s ++ r) 0 (quotes_in (s ++ r)) ≡ (records_ok s 0 (quotes_in s) && records_ok r 0 (quotes_in r))
joined_records s r z =
    let m : length s ≡ quotes_in s * 28 = omega arith in
    let n : quotes_in (s ++ r) ≡ quotes_in s + quotes_in r = omega (arith, length-append s r) in
    let second : records_ok (s ++ r) (0 + quotes_in s) (quotes_in r) ≡ records_ok r 0 (quotes_in r)
    = let e : 0 + quotes_in s ≡ quotes_in s + 0 = omega arith in rw e (second_records s r (quotes_in s) (quotes_in r) 0 m) in
    ap (records_ok (s ++ r) 0) n ∙ split_records (s ++ r) (quotes_in s) (quotes_in r) 0
    ∙ ap₂ ◌&&◌ (first_records s r (quotes_in s) 0 (omega arith)) second
