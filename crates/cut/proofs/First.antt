-- The first case of some bytes.
use Prim.Native.Nat.{ℕ, ◌+◌, ◌≤◌, ◌<◌}
use mathlib.Core.Path.{◌≡◌, refl, sym, ap, ◌∙◌}
use mathlib.Core.Bool.{Bool, true, false, ◌&&◌, and-false}
use mathlib.Core.List.{List, ◌++◌}
use native.Mathlib.Omega.{arith}
use lib.ListN.{length, take, length-append, get_or-append}
use lib.Seq.{get_or-take, length-take-le}
use lib.Dec.{leb}
use borrow.Author.Tests.{le-leb, lt-leb, leb-true}
use Rattle.wire.specs.Numbers.{number_at}
use Rattle.wire.specs.Tests.{pick}
use Rattle.wire.proofs.Tests.{both_true, either}
use Rattle.forms.specs.Heads.{known, size_in, kind_in}
use Rattle.cut.specs.Cut.{IsCase, begins, case_length}
use Rattle.forms.proofs.Heads.{known_size}

-- ---- what a first case is
pub record First (s : List ℕ) : Type 0 where
  pub pair : known (size_in s) (kind_in s) ≡ true
  pub size : case_length s ≡ size_in s
  pub fits : size_in s ≤ length s
  pub low : 88 ≤ size_in s

module _ (s : List ℕ) where
  first_of : begins s ≡ true → First s
  unfolding begins case_length
  first_of e =
      let a = both_true (leb 4 (length s)) (known (size_in s) (kind_in s) && leb (size_in s) (length s)) e in
      let b = both_true (known (size_in s) (kind_in s)) (leb (size_in s) (length s)) a.1 in
      record { pair = b.0; size = simp e; fits = leb-true (size_in s) (length s) b.1; low = known_size (size_in s) (kind_in s) b.0 }

  pub first : (case_length s ≡ 0 → ⊥) → First s
  unfolding case_length
  first h = by_test (begins s) refl where
    by_test : (b : Bool) → begins s ≡ b → First s
    by_test true e = first_of e
    by_test false e = absurd (h (simp e))

  -- a first case, and then any bytes
  pub length_le : case_length s ≤ length s
  unfolding case_length
  length_le = either (λ (n : ℕ). n ≤ length s) (begins s) (size_in s) 0 (λ e. (first_of e).fits) (λ e. omega arith)

-- ---- the head is the same whatever follows, and in the front of the bytes
head_append : (c r : List ℕ) (i : ℕ) → i + 2 ≤ length c → number_at 2 (c ++ r) i ≡ number_at 2 c i
unfolding number_at
head_append c r i h = simp (get_or-append c r 0 (i + 0) (omega arith), get_or-append c r 0 (i + 1) (omega arith))

head_take : (n : ℕ) (s : List ℕ) (i : ℕ) → i + 2 ≤ n → number_at 2 (take n s) i ≡ number_at 2 s i
unfolding number_at
head_take n s i h = simp (get_or-take n s (i + 0) 0 (omega arith), get_or-take n s (i + 1) 0 (omega arith))

-- a case at the front is as long as it is
module _ (c r : List ℕ) (is : IsCase c) where
  pub case_low : 88 ≤ length c
  case_low = omega (arith, known_size (size_in c) (kind_in c) is.pair, is.long)

  pub case_first : case_length (c ++ r) ≡ length c
  unfolding case_length begins
  case_first =
      let low = case_low in
      let size = head_append c r 0 (omega arith) in
      let kind = head_append c r 2 (omega arith) in
      let long = is.long in
      let more = length-append c r in
      simp (size, kind, is.pair, le-leb 4 (length (c ++ r)) (omega arith), le-leb (size_in c) (length (c ++ r)) (omega arith)) (sym long)

-- the first case is a case
pub first_is : (s : List ℕ) → First s → IsCase (take (case_length s) s)
first_is s f =
    let size = head_take (case_length s) s 0 (omega (arith, f.size, f.low)) in
    let kind = head_take (case_length s) s 2 (omega (arith, f.size, f.low)) in
    record {
      pair = rw (size, kind) f.pair;
      long = length-take-le (case_length s) s (length_le s) ∙ f.size ∙ sym size;
    }

-- ---- the length by the tests that lead there
pick_and : (a b : Bool) (x : ℕ) → b ≡ false → pick (a && b) x 0 ≡ 0
pick_and true b x e = simp e
pick_and false b x e = refl

module _ (s : List ℕ) where
  pub none_short : length s < 4 → case_length s ≡ 0
  unfolding case_length begins
  none_short h = simp (lt-leb 4 (length s) h)

  pub none_unknown : known (size_in s) (kind_in s) ≡ false → case_length s ≡ 0
  unfolding case_length begins
  none_unknown h = pick_and (leb 4 (length s)) (known (size_in s) (kind_in s) && leb (size_in s) (length s)) (size_in s) (simp h)

  pub none_cut : length s < size_in s → case_length s ≡ 0
  unfolding case_length begins
  none_cut h = pick_and (leb 4 (length s)) (known (size_in s) (kind_in s) && leb (size_in s) (length s)) (size_in s) (ap (λ (b : Bool). known (size_in s) (kind_in s) && b) (lt-leb (size_in s) (length s) h) ∙ and-false (known (size_in s) (kind_in s)))

  pub one_first : 4 ≤ length s → known (size_in s) (kind_in s) ≡ true → size_in s ≤ length s → case_length s ≡ size_in s
  unfolding case_length begins
  one_first a b c = simp (le-leb 4 (length s) a, b, le-leb (size_in s) (length s) c)
