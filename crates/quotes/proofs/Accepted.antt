-- What holds of quotes that are not refused: each record is in order, and no time is lower than one before it.
use Prim.Native.Nat.{ℕ, zero, suc, ◌+◌, ◌%◌, ◌≤◌, ◌<◌}
use mathlib.Core.Path.{◌≡◌}
use mathlib.Core.Bool.{true, ◌&&◌}
use mathlib.Core.List.{List}
use native.Mathlib.Nat.{add-zero, zero-add, le_refl}
use native.Mathlib.Omega.{arith}
use lib.Dec.{leb, eqb}
use lib.ListN.{length}
use borrow.Author.Tests.{leb-true}
use Rattle.wire.specs.Tests.{in_range}
use Rattle.wire.proofs.Tests.{both_true, range_ends, none_fails}
use Rattle.quotes.specs.Quotes.{posted_at, posted_from, posted_in, quotes_in, whole_quotes, is_quote, side_ok, fields_ok, record_ok, records_ok, rising_from, rising, quotes_refusal_of}

-- ---- no refusal: each test passed
module _ (s : List ℕ) (t : ℕ) (h : quotes_refusal_of s t ≡ 0) where
  parts : (whole_quotes s ≡ true) × ((records_ok s 0 (quotes_in s) ≡ true) × ((rising (posted_in s) ≡ true) × (leb t 86399 ≡ true)))
  unfolding quotes_refusal_of
  parts =
      let a = none_fails (whole_quotes s) 20 _ tt h in
      let b = none_fails (records_ok s 0 (quotes_in s)) 21 _ tt a.1 in
      let c = none_fails (rising (posted_in s)) 22 _ tt b.1 in
      let d = none_fails (leb t 86399) 23 _ tt c.1 in
      (a.0, (b.0, (c.0, d.0)))

  pub all_ok_lem : records_ok s 0 (quotes_in s) ≡ true
  all_ok_lem = parts.1.0

  pub few_quotes : quotes_in s ≤ 2000
  unfolding whole_quotes
  few_quotes = omega (arith, leb-true (length s) 56000 (both_true (eqb (length s % 28) 0) _ parts.0).1)

  pub all_rising : rising (posted_in s) ≡ true
  all_rising = parts.1.1.0

-- ---- a record among those that are in order
ok_from : (s : List ℕ) (n k i : ℕ) → records_ok s k n ≡ true → i < n → record_ok s (k + i) ≡ true
unfolding records_ok
ok_from s zero k i h l = let z : ⊥ = omega arith in absurd z
ok_from s (suc n) k zero h l = rw add-zero (both_true _ _ h).0
ok_from s (suc n) k (suc i) h l =
    let e : k + suc i ≡ suc k + i = omega arith in rw e (ok_from s n (suc k) i (both_true (record_ok s k) _ h).1 (omega arith))

module _ (s : List ℕ) (n k : ℕ) (h : records_ok s 0 n ≡ true) (l : k < n) where
  pub ok_at : record_ok s k ≡ true
  ok_at = rw zero-add at (ok_from s n 0 k h l)

  pub fields_at : fields_ok (posted_at s k) ≡ true
  unfolding record_ok
  fields_at = (both_true (is_quote s k) _ ok_at).1

  pub exchange_at : (1 ≤ (posted_at s k).exchange) × ((posted_at s k).exchange ≤ 16)
  unfolding fields_ok
  exchange_at =
      let q = posted_at s k in
      let a = both_true (in_range 1 16 q.exchange && leb q.time.0 86399 && side_ok q.bid) _ fields_at in
      let b = both_true (in_range 1 16 q.exchange && leb q.time.0 86399) _ a.0 in
      let c = both_true (in_range 1 16 q.exchange) _ b.0 in
      range_ends 1 16 q.exchange c.0

-- ---- times that never go back
abbrev pub time_at : List ℕ → ℕ → ℕ
time_at s k = (posted_at s k).time.0

pub least : (s : List ℕ) (n k t i : ℕ) → rising_from t (posted_from s k n) ≡ true → i < n → t ≤ time_at s (k + i)
unfolding posted_from rising_from
least s zero k t i h l = let z : ⊥ = omega arith in absurd z
least s (suc n) k t zero h l = rw add-zero (leb-true t (time_at s k) (both_true (leb t (time_at s k)) _ h).0)
least s (suc n) k t (suc i) h l =
    let b = both_true (leb t (time_at s k)) _ h in
    let e : k + suc i ≡ suc k + i = omega arith in
    rw e (omega (arith, leb-true t (time_at s k) b.0, least s n (suc k) (time_at s k) i b.1 (omega arith)))

sorted_from : (s : List ℕ) (n k t i j : ℕ) → rising_from t (posted_from s k n) ≡ true → i ≤ j → j < n → time_at s (k + i) ≤ time_at s (k + j)
unfolding posted_from rising_from
sorted_from s zero k t i j h a b = let z : ⊥ = omega arith in absurd z
sorted_from s (suc n) k t zero zero h a b = le_refl _
sorted_from s (suc n) k t zero (suc j) h a b =
    let e : k + suc j ≡ suc k + j = omega arith in
    rw (add-zero, e) (least s n (suc k) (time_at s k) j (both_true (leb t (time_at s k)) _ h).1 (omega arith))
sorted_from s (suc n) k t (suc i) zero h a b = let z : ⊥ = omega arith in absurd z
sorted_from s (suc n) k t (suc i) (suc j) h a b =
    let e : k + suc i ≡ suc k + i = omega arith in
    let f : k + suc j ≡ suc k + j = omega arith in
    rw (e, f) (sorted_from s n (suc k) (time_at s k) i j (both_true (leb t (time_at s k)) _ h).1 (omega arith) (omega arith))

pub sorted : (s : List ℕ) (n i j : ℕ) → rising (posted_from s 0 n) ≡ true → i ≤ j → j < n → time_at s i ≤ time_at s j
sorted s n i j h a b = simp zero-add at (sorted_from s n 0 0 i j h a b)
