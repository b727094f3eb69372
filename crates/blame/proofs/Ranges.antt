-- The laws of bounds: what a range holds that is one number, or nothing, or starts at 0; and a byte as a number of the record.
use Prim.Native.Nat.{ℕ}
use mathlib.Core.Path.{◌≡◌, refl, sym}
use mathlib.Core.Bool.{Bool, true, false, not}
use mathlib.Core.List.{List}
use native.Mathlib.Nat.{add-zero}
use native.Mathlib.Omega.{arith}
use lib.ListN.{get_or}
use lib.Dec.{leb, ltb, eqb, leb-zero}
use borrow.Author.Tests.{leb-true, leb-false, ltb-true, ltb-false, eqb-true, le-leb, lt-leb, eq-eqb}
use Rattle.std.specs.Ordering.{is_le, nat_cmp}
use Rattle.std.proofs.lemmas.Bool.Decides.{nat_tests}
use Rattle.wire.specs.Numbers.{number_at}
use Rattle.wire.specs.Tests.{in_range}
use Rattle.wire.proofs.Tests.{range_in, range_low, range_high, range_ends}

-- two tests that hold together are one
pub same : (a b : Bool) → (a ≡ true → b ≡ true) → (b ≡ true → a ≡ true) → a ≡ b
same true true p q = refl
same true false p q = sym (p refl)
same false true p q = q refl
same false false p q = refl

pub not_below : (a b : ℕ) → not (ltb a b) ≡ leb b a
not_below a b = by_test (ltb a b) refl where
  by_test : (t : Bool) → ltb a b ≡ t → not t ≡ leb b a
  by_test true h = sym (lt-leb b a (ltb-true a b h))
  by_test false h = sym (le-leb b a (ltb-false a b h))

-- the comparison's test
pub le_test : (a b : ℕ) → is_le (nat_cmp a b) ≡ leb a b
le_test a b = grind (arith, nat_tests)

-- one number
pub exactly : (k n : ℕ) → in_range k k n ≡ eqb n k
exactly k n =
    same (in_range k k n) (eqb n k) (λ h. let e = range_ends k k n h in eq-eqb n k (omega arith)) (λ h. let e = eqb-true n k h in range_in k k n (omega arith) (omega arith))

-- no number
pub nothing : (n : ℕ) → in_range 1 0 n ≡ false
nothing n = by_test (leb 1 n) refl where
  by_test : (t : Bool) → leb 1 n ≡ t → in_range 1 0 n ≡ false
  by_test true h = range_high 1 0 n (leb-true 1 n h)
  by_test false h = range_low 1 0 n (leb-false 1 n h)

-- every number up to one
pub up_to_lem : (k n : ℕ) → in_range 0 k n ≡ leb n k
unfolding in_range
up_to_lem k n = simp (leb-zero n)

-- ---- a byte is a number of one byte
pub byte_number : (s : List ℕ) (at : ℕ) → get_or s at 0 ≡ number_at 1 s at
unfolding number_at
byte_number s at = simp add-zero
