-- The laws of the words of tests.
use Prim.Native.Nat.{ℕ, zero, suc, ◌+◌, ◌≤◌, ◌<◌}
use native.Mathlib.Nat.{le_of_suc-le-suc, lt_of_lt_of_le, le_trans}
use mathlib.Core.Path.{◌≡◌, refl, sym, subst}
use mathlib.Core.Bool.{Bool, true, false, not, ◌&&◌, and-false, true≢false, false≢true}
use mathlib.Core.List.{List, [], ◌∷◌, ◌++◌}
use lib.Dec.{T, leb, eqb, leb→le, T_not}
use native.Mathlib.Omega.{arith}
use borrow.Author.Tests.{le-leb, lt-leb, leb-true, eqb-true, eqb-false}
use Prim.Native.Nat.{zero-le}
use Rattle.wire.specs.Tests.{pick, in_range, first_failed}

-- ---- a range, in the form that a `match` with ranges leaves: `lo ≤ n` where a test was left, `n < suc hi` where one was taken
pub range_in : (lo hi n : ℕ) → lo ≤ n → n < suc hi → in_range lo hi n ≡ true
unfolding in_range
range_in lo hi n a b = simp (le-leb lo n a, le-leb n hi (le_of_suc-le-suc b))

pub range_low : (lo hi n : ℕ) → n < lo → in_range lo hi n ≡ false
unfolding in_range
range_low lo hi n a = simp (lt-leb lo n a)

pub range_high : (lo hi n : ℕ) → suc hi ≤ n → in_range lo hi n ≡ false
unfolding in_range
range_high lo hi n a = simp (lt-leb n hi a, and-false)

-- a bound by a numeral is one by any larger numeral: the first comes from a hypothesis
pub lt_lit : (n a b : ℕ) → n < a → T (leb a b) → n < b
lt_lit n a b h t = lt_of_lt_of_le h (leb→le a b t)

pub le_lit : (n a b : ℕ) → a ≤ n → T (leb b a) → b ≤ n
le_lit n a b h t = le_trans (leb→le b a t) h

-- `search ranges` closes each return of a `match` with ranges
pub ruleset ranges = (tt, zero-le, range_in, range_low, range_high, lt_lit, le_lit)

-- ---- tests taken apart

-- where the code asks whether a test does not hold
pub fails : (b : Bool) → not b ≡ true → b ≡ false
fails true e = absurd (false≢true e)
fails false e = refl

pub holds : (b : Bool) → not b ≡ false → b ≡ true
holds true e = refl
holds false e = absurd (true≢false e)

-- what holds of the first where it is picked, and of the second where it is, holds of the one picked
pub either : {A : Type 0} (P : A → Type 0) (b : Bool) (x y : A) → (b ≡ true → P x) → (b ≡ false → P y) → P (pick b x y)
either P true x y p q = p refl
either P false x y p q = q refl

pub both_true : (a b : Bool) → (a && b) ≡ true → (a ≡ true) × (b ≡ true)
both_true true b h = (refl, h)
both_true false b h = absurd (eqb-false 0 0 (sym h) refl)

pub range_ends : (lo hi n : ℕ) → in_range lo hi n ≡ true → (lo ≤ n) × (n ≤ hi)
unfolding in_range
range_ends lo hi n h =
    let e = both_true (leb lo n) (leb n hi) h in (leb-true lo n e.0, leb-true n hi e.1)

-- a number in a range is in any wider one
pub range_wider : (lo hi lo' hi' n : ℕ) → T (leb lo' lo) → T (leb hi hi') → in_range lo hi n ≡ true → in_range lo' hi' n ≡ true
range_wider lo hi lo' hi' n l h e =
    let k = range_ends lo hi n e in range_in lo' hi' n (omega (arith, leb→le lo' lo l)) (omega (arith, leb→le hi hi' h))

-- P at each of lo, lo + 1, .. up to lo + n
abbrev pub Each : (ℕ → Type 0) → ℕ → ℕ → Type 0
Each P zero lo = P lo
Each P (suc n) lo = P lo × Each P n (suc lo)

-- either b is k, or it is another
is_or_not : (P : ℕ → Type 0) (b k : ℕ) → P k → ((b ≡ k → ⊥) → P b) → P b
is_or_not P b k p other = by_test (eqb b k) refl where
  by_test : (t : Bool) → eqb b k ≡ t → P b
  by_test true e = subst P (sym (eqb-true b k e)) p
  by_test false e = other (eqb-false b k e)

-- what holds at each number of a list holds at any number in its range: a list of codes is gone through once
pub each : (P : ℕ → Type 0) (n lo : ℕ) → Each P n lo → (b : ℕ) → lo ≤ b → b ≤ lo + n → P b
each P zero lo p b l h = subst P (let e : lo ≡ b = omega arith in e) p
each P (suc n) lo p b l h = is_or_not P b lo p.0 (λ k. each P n (suc lo) p.1 b (omega arith) (omega arith))

pub each_listed : (P : ℕ → Type 0) (n lo : ℕ) → Each P n lo → (b : ℕ) → in_range lo (lo + n) b ≡ true → P b
each_listed P n lo p b h = let e = range_ends lo (lo + n) b h in each P n lo p b e.0 e.1

-- where no numbered test fails, this one holds and the later ones do
pub none_fails : (ok : Bool) (n later : ℕ) → T (not (eqb n 0)) → pick ok later n ≡ 0 → (ok ≡ true) × (later ≡ 0)
none_fails true n later h e = (refl, e)
none_fails false n later h e = absurd (T_not (eqb n 0) h (subst (λ (k : ℕ). T (eqb k 0)) (sym e) tt))

-- no test has the number 0
abbrev pub Numbered : List (ℕ × Bool) → Type 0
Numbered [] = Unit {0}
Numbered ((n, ok) ∷ tests) = (eqb n 0 ≡ false) × Numbered tests

-- of two rows of tests the second is asked where the first has none that fails
pub first_append : (tests later : List (ℕ × Bool)) → Numbered tests
    → first_failed (tests ++ later) ≡ pick (eqb (first_failed tests) 0) (first_failed later) (first_failed tests)
first_append [] later h = refl
first_append ((n, true) ∷ tests) later h = first_append tests later h.1
first_append ((n, false) ∷ tests) later h = simp h.0
