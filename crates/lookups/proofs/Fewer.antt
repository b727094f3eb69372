-- A list that is not refused is not refused without some of its records.
use Prim.Native.Nat.{ℕ, ◌+◌, ◌%◌, ◌≤◌}
use mathlib.Core.Path.{◌≡◌, refl, sym, ap, ◌∙◌}
use mathlib.Core.Bool.{true}
use mathlib.Core.List.{List, [], ◌∷◌, ◌++◌}
use native.Mathlib.Omega.{arith}
use lib.Dec.{leb, eqb}
use lib.ListN.{length, length-append}
use borrow.Author.Tests.{leb-true, le-leb, eqb-true, eq-eqb}
use Rattle.wire.proofs.Tests.{both_true, none_fails}
use Rattle.quotes.specs.Quotes.{quotes_in, posted_in, whole_quotes, records_ok, rising_from, rising, quotes_refusal_of}
use Rattle.best.specs.Words.{Posted}
use Rattle.lookups.specs.Lookups.{Whole}
use Rattle.lookups.proofs.Joined.{joined_posted, joined_records}

-- ---- times that never go back, without some of them
rising_less : (e d : ℕ) (qs : List Posted) → e ≤ d → rising_from d qs ≡ true → rising_from e qs ≡ true
unfolding rising_from
rising_less e d [] l h = refl
rising_less e d (q ∷ qs) l h =
    let b = both_true (leb d q.time.0) _ h in
    simp (le-leb e q.time.0 (omega (arith, leb-true d q.time.0 b.0))) b.1

rising_tail : (e : ℕ) (rs qs : List Posted) → rising_from e (rs ++ qs) ≡ true → rising_from e qs ≡ true
unfolding rising_from
rising_tail e [] qs h = h
rising_tail e (r ∷ rs) qs h =
    let b = both_true (leb e r.time.0) _ h in
    rising_less e r.time.0 qs (leb-true e r.time.0 b.0) (rising_tail r.time.0 rs qs b.1)

rising_fewer : (e : ℕ) (ps rs qs : List Posted) → rising_from e (ps ++ (rs ++ qs)) ≡ true → rising_from e (ps ++ qs) ≡ true
unfolding rising_from
rising_fewer e [] rs qs h = rising_tail e rs qs h
rising_fewer e (p ∷ ps) rs qs h =
    let b = both_true (leb e p.time.0) _ h in
    simp b.0 (rising_fewer p.time.0 ps rs qs b.1)

-- ---- in bytes: without the records r
module _ (a r b : List ℕ) (t : ℕ) (wa : Whole a) (wr : Whole r) where
  whole_fewer : whole_quotes (a ++ (r ++ b)) ≡ true → whole_quotes (a ++ b) ≡ true
  unfolding whole_quotes
  whole_fewer h =
      let x = both_true (eqb (length (a ++ (r ++ b)) % 28) 0) _ h in
      let rest = eqb-true (length (a ++ (r ++ b)) % 28) 0 x.0 in
      let most = leb-true (length (a ++ (r ++ b))) 56000 x.1 in
      let l1 = length-append a (r ++ b) in
      let l2 = length-append r b in
      let l3 = length-append a b in
      simp (eq-eqb (length (a ++ b) % 28) 0 (omega arith), le-leb (length (a ++ b)) 56000 (omega arith))

  records_fewer : records_ok (a ++ (r ++ b)) 0 (quotes_in (a ++ (r ++ b))) ≡ true → records_ok (a ++ b) 0 (quotes_in (a ++ b)) ≡ true
  records_fewer h =
      let x = both_true (records_ok a 0 (quotes_in a)) _ (sym (joined_records a (r ++ b) wa) ∙ h) in
      let y = both_true (records_ok r 0 (quotes_in r)) _ (sym (joined_records r b wr) ∙ x.1) in
      joined_records a b wa ∙ simp (x.0, y.1)

  times_fewer : rising (posted_in (a ++ (r ++ b))) ≡ true → rising (posted_in (a ++ b)) ≡ true
  times_fewer h =
      let long : posted_in (a ++ (r ++ b)) ≡ posted_in a ++ (posted_in r ++ posted_in b)
      = joined_posted a (r ++ b) wa ∙ ap (λ (l : List Posted). posted_in a ++ l) (joined_posted r b wr) in
      ap rising (joined_posted a b wa) ∙ rising_fewer 0 (posted_in a) (posted_in r) (posted_in b) (sym (ap rising long) ∙ h)

  pub still_good : quotes_refusal_of (a ++ (r ++ b)) t ≡ 0 → quotes_refusal_of (a ++ b) t ≡ 0
  unfolding quotes_refusal_of
  still_good h =
      let t20 = none_fails (whole_quotes (a ++ (r ++ b))) 20 _ tt h in
      let t21 = none_fails (records_ok (a ++ (r ++ b)) 0 (quotes_in (a ++ (r ++ b)))) 21 _ tt t20.1 in
      let t22 = none_fails (rising (posted_in (a ++ (r ++ b)))) 22 _ tt t21.1 in
      let t23 = none_fails (leb t 86399) 23 _ tt t22.1 in
      simp (whole_fewer t20.0, records_fewer t21.0, times_fewer t22.0, t23.0)
