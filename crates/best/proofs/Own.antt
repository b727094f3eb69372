-- The lookup with the number that the quotes themselves give: it finds what the quotes alone decide, and reads no more of them than there are before
-- the trade.
use Prim.Native.Nat.{ℕ, suc, ◌≤◌}
use mathlib.Core.Path.{◌≡◌, refl, sym, ap, ◌∙◌}
use mathlib.Core.Bool.{Bool, true, false}
use mathlib.Core.List.{List, [], ◌∷◌}
use native.Mathlib.Omega.{arith}
use lib.Dec.{eqb}
use lib.ListN.{length}
use borrow.Author.Tests.{eq-eqb, ne_eqb, eqb-true, eqb-false}
use Rattle.wire.proofs.Tests.{either}
use Rattle.quotes.specs.Quotes.{posted_in, quotes_refusal_of}
use Rattle.quotes.proofs.Accepted.{all_rising, few_quotes}
use Rattle.earlier.specs.Earlier.{earlier, count_of, quotes_before_of}
use Rattle.earlier.proofs.Number.{count_most, before_right}
use Rattle.best.specs.Words.{Posted, Found, Looked}
use Rattle.best.specs.Lasts.{lasts}
use Rattle.best.specs.Examined.{all_known, examined_in}
use Rattle.best.specs.Found.{found_in, refused, found_of}
use Rattle.best.specs.Looked.{look_refusal_of, looked_in, unread, looked_of}
use Rattle.best.proofs.Answers.{looked_refused, looked_right}

pub examined_most : (qs : List Posted) → examined_in qs ≤ length qs
unfolding examined_in
examined_most [] = omega arith
examined_most (q ∷ qs) =
    either (λ n. n ≤ suc (length qs)) (all_known (lasts qs)) (examined_in qs) (suc (length qs)) (λ e. omega (arith, examined_most qs)) (λ e. omega arith)

module _ (s : List ℕ) (t : ℕ) where
  -- beside a number nothing was read; else of those before the trade
  pub looked_most : (n : ℕ) → (looked_of s t n).examined ≤ count_of s t
  unfolding looked_of looked_in
  looked_most n =
      either (λ (l : Looked). l.examined ≤ count_of s t) (eqb (look_refusal_of s t n) 0) (looked_in (earlier t (posted_in s))) (unread (look_refusal_of s t n))
      (λ e. examined_most (earlier t (posted_in s))) (λ e. omega arith)

  -- ---- what the quotes alone decide
  pub found_refused : (n : ℕ) → n ≡ quotes_refusal_of s t → (n ≡ 0 → ⊥) → refused n ≡ found_of s t
  unfolding found_of
  found_refused n e h = rw (← e, ne_eqb n 0 h)

  pub found : quotes_refusal_of s t ≡ 0 → found_in (earlier t (posted_in s)) ≡ found_of s t
  unfolding found_of
  found h = simp (eq-eqb (quotes_refusal_of s t) 0 h)

  -- its number is that of the first test that fails
  pub found_number : (found_of s t).refusal ≡ quotes_refusal_of s t
  unfolding found_of found_in
  found_number =
      either (λ (f : Found). f.refusal ≡ quotes_refusal_of s t) (eqb (quotes_refusal_of s t) 0) (found_in (earlier t (posted_in s))) (refused (quotes_refusal_of s t))
      (λ e. sym (eqb-true (quotes_refusal_of s t) 0 e)) (λ e. refl)

  -- ---- with their own number
  pub own_looked : quotes_refusal_of s t ≡ 0 → looked_of s t (quotes_before_of s t) ≡ looked_in (earlier t (posted_in s))
  own_looked h = looked_right s t (quotes_before_of s t) h (before_right s t h)

  -- what is found is theirs, and the count is no more than there can be quotes
  abbrev Own : Type 0
  Own = ((looked_of s t (quotes_before_of s t)).found ≡ found_of s t) × ((looked_of s t (quotes_before_of s t)).examined ≤ 2000)

  good : quotes_refusal_of s t ≡ 0 → Own
  unfolding looked_in
  good h = (
    ap (λ (l : Looked). l.found) (own_looked h) ∙ found h,
    omega (arith, looked_most (quotes_before_of s t), count_most s t (all_rising s t h), few_quotes s t h),
  )

  bad : (quotes_refusal_of s t ≡ 0 → ⊥) → Own
  bad h =
      let u = looked_refused s t (quotes_before_of s t) (quotes_refusal_of s t) refl h in
      (ap (λ (l : Looked). l.found) (sym u) ∙ found_refused (quotes_refusal_of s t) refl h, rw (← u) (omega arith))

  own : Own
  own = by_test (eqb (quotes_refusal_of s t) 0) refl where
    by_test : (b : Bool) → eqb (quotes_refusal_of s t) 0 ≡ b → Own
    by_test true e = good (eqb-true (quotes_refusal_of s t) 0 e)
    by_test false e = bad (eqb-false (quotes_refusal_of s t) 0 e)

  pub own_found : (looked_of s t (quotes_before_of s t)).found ≡ found_of s t
  own_found = own.0

  pub own_most : (looked_of s t (quotes_before_of s t)).examined ≤ 2000
  own_most = own.1
