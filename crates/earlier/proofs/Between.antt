-- Where the quotes strictly before the trade end, in a list of records that is in time order.
use Prim.Native.Nat.{ℕ, zero, suc, ◌+◌, ◌-◌, ◌≤◌, ◌<◌}
use mathlib.Core.Path.{◌≡◌, refl, sym, ap, ◌∙◌}
use mathlib.Core.Bool.{Bool, true, false}
use mathlib.Core.List.{List, [], ◌∷◌}
use native.Mathlib.Nat.{add-zero, zero-add}
use native.Mathlib.Omega.{arith}
use lib.Dec.{ltb}
use lib.ListN.{length}
use borrow.Author.Tests.{lt-ltb, le-ltb, ltb-true, ltb-false}
use Rattle.quotes.specs.declared.Posted.{Posted}
use Rattle.quotes.specs.Quotes.{posted_at, posted_from, quotes_in, posted_in, rising}
use Rattle.quotes.proofs.Accepted.{time_at, sorted}
use Rattle.quotes.proofs.Records.{posted_length}
use Rattle.earlier.specs.Earlier.{earlier, count_of}

-- j records from record k on that are none of them
none_from : (s : List ℕ) (t j k : ℕ) → ((i : ℕ) → i < j → t ≤ time_at s (k + i)) → earlier t (posted_from s k j) ≡ []
unfolding posted_from earlier
none_from s t zero k h = refl
none_from s t (suc j) k h =
    let here : t ≤ time_at s k = rw add-zero at (h 0 (omega arith)) in
    let later : (i : ℕ) → i < j → t ≤ time_at s (suc k + i) = λ i l. let e : k + suc i ≡ suc k + i = omega arith in rw e at (h (suc i) (omega arith)) in
    simp (le-ltb (time_at s k) t here) (none_from s t j (suc k) later)

-- m that are, and j that are not
first_from : (s : List ℕ) (t m j k : ℕ) → ((i : ℕ) → i < m → time_at s (k + i) < t) → ((i : ℕ) → i < j → t ≤ time_at s (k + m + i))
    → posted_from s k m ≡ earlier t (posted_from s k (m + j))
unfolding posted_from earlier
first_from s t zero j k h g =
    let late : (i : ℕ) → i < j → t ≤ time_at s (k + i) = λ i l. let e : k + 0 + i ≡ k + i = omega arith in rw e at (g i l) in
    rw zero-add (sym (none_from s t j k late))
first_from s t (suc m) j k h g =
    let here : time_at s k < t = rw add-zero at (h 0 (omega arith)) in
    let more : (i : ℕ) → i < m → time_at s (suc k + i) < t = λ i l. let e : k + suc i ≡ suc k + i = omega arith in rw e at (h (suc i) (omega arith)) in
    let late : (i : ℕ) → i < j → t ≤ time_at s (suc k + m + i) = λ i l. let e : k + suc m + i ≡ suc k + m + i = omega arith in rw e at (g i l) in
    let e : suc m + j ≡ suc (m + j) = omega arith in
    rw e (simp (lt-ltb (time_at s k) t here) (ap (λ (l : List Posted). posted_at s k ∷ l) (first_from s t m j (suc k) more late)))

-- ---- those below `low` are before the trade, and none from `high` on is
module _ (s : List ℕ) (t : ℕ) where
  pub record Between (low high : ℕ) : Type 0 where
    pub within : (low ≤ high) × (high ≤ quotes_in s)
    pub before : (i : ℕ) → i < low → time_at s i < t
    pub late : (i : ℕ) → high ≤ i → i < quotes_in s → t ≤ time_at s i

  pub start : Between 0 (quotes_in s)
  start =
      record {
        within = (omega arith, omega arith);
        before = λ i l. let z : ⊥ = omega arith in absurd z;
        late = λ i h l. let z : ⊥ = omega arith in absurd z;
      }

  -- the two ends have met: the first `low` records are the quotes strictly before the trade
  pub met : (low high : ℕ) → Between low high → high ≤ low → posted_from s 0 low ≡ earlier t (posted_in s)
  met low high b h =
      let same : high ≡ low = omega (arith, b.within) in
      let all : low + (quotes_in s - low) ≡ quotes_in s = omega (arith, b.within) in
      let first = first_from s t low (quotes_in s - low) 0
      (λ i l. rw zero-add (b.before i l))
      (λ i l. let e : 0 + low + i ≡ low + i = omega arith in rw e (b.late (low + i) (omega arith) (omega arith))) in
      rw all at first

  pub met_count : (low high : ℕ) → Between low high → high ≤ low → low ≡ count_of s t
  met_count low high b h = sym (posted_length s low 0) ∙ ap length (met low high b h)

  module _ (ordered : rising (posted_in s) ≡ true) where
    -- a quote in between raises the one end or lowers the other
    module _ (low high middle : ℕ) (b : Between low high) (lo : low ≤ middle) (hi : middle < high) where
      raised_at : time_at s middle < t → Between (middle + 1) high
      raised_at g =
          record {
            within = (omega arith, b.within.1);
            before = λ i l. omega (arith, sorted s (quotes_in s) i middle ordered (omega arith) (omega (arith, b.within)));
            late = b.late;
          }

      lowered_at : t ≤ time_at s middle → Between low middle
      lowered_at g =
          record {
            within = (omega arith, omega (arith, b.within));
            before = b.before;
            late = λ i l m. omega (arith, sorted s (quotes_in s) middle i ordered l m);
          }

      module _ (q : Posted) (is : q ≡ posted_at s middle) where
        pub raised : q.time.0 < t → Between (middle + 1) high
        raised h = raised_at (rw is at h)

        pub lowered : t ≤ q.time.0 → Between low middle
        lowered h = lowered_at (rw is at h)

    -- there is such a place: the late quotes passed one by one, from the end
    passed : (n : ℕ) → Between 0 n → (c : ℕ) × Between c c
    passed zero b = (0, b)
    passed (suc n) b = by_test (ltb (time_at s n) t) refl (passed n) where
      by_test : (x : Bool) → ltb (time_at s n) t ≡ x → (Between 0 n → (c : ℕ) × Between c c) → (c : ℕ) × Between c c
      by_test true e more =
          let r = raised_at 0 (suc n) n b (omega arith) (omega arith) (ltb-true (time_at s n) t e) in
          let d : n + 1 ≡ suc n = omega arith in
          (suc n, rw d at r)
      by_test false e more = more (lowered_at 0 (suc n) n b (omega arith) (omega arith) (ltb-false (time_at s n) t e))

    -- and it is their number
    pub cut : Between (count_of s t) (count_of s t)
    cut = let p = passed (quotes_in s) start in
        let e : p.0 ≡ count_of s t = met_count p.0 p.0 p.1 (omega arith) in
        rw e at p.1
