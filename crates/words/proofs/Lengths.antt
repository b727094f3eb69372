-- How long a decimal is at most, and a count with its commas.
use Prim.Native.Nat.{ℕ, zero, suc, ◌+◌, ◌/◌, ◌%◌, ◌^◌, ◌≤◌, ◌<◌}
use mathlib.Core.List.{List, [], ◌∷◌}
use native.Mathlib.Nat.{pow-succ'}
use native.Mathlib.Omega.{arith}
use lib.ListN.{length, length-append}
use lib.Dec.{ltb}
use borrow.Author.Tests.{ltb-true, ltb-false}
use Rattle.wire.proofs.Tests.{either}
use Rattle.text.specs.Text.{digit, spelt, decimal_of}
use Rattle.words.specs.Grouped.{group, grouped_by}

digits_most : (d k n : ℕ) → n < 10 ^ suc d → length (spelt k n) ≤ suc d
unfolding spelt
digits_most d zero n h = omega arith
digits_most zero (suc k) n h =
    let l : n < 10 = h in
    either (λ (w : List ℕ). length w ≤ 1) (ltb n 10) _ _ (λ t. omega arith) (λ t. omega (arith, ltb-false n 10 t))
digits_most (suc d) (suc k) n h =
    let e = pow-succ' 10 (suc d) in
    let l : n / 10 < 10 ^ suc d = omega arith in
    let i = digits_most d k (n / 10) l in
    let a = length-append (spelt k (n / 10)) (digit (n % 10) ∷ []) in
    either (λ (w : List ℕ). length w ≤ suc (suc d)) (ltb n 10) _ _ (λ t. omega arith) (λ t. omega arith)

one_digit : (n : ℕ) → n < 10 → length (decimal_of n) ≤ 1
unfolding decimal_of
one_digit n h = digits_most 0 9 n h

pub three_digits : (n : ℕ) → n < 1000 → length (decimal_of n) ≤ 3
unfolding decimal_of
three_digits n h = digits_most 2 9 n h

four_digits : (n : ℕ) → n < 10000 → length (decimal_of n) ≤ 4
unfolding decimal_of
four_digits n h = digits_most 3 9 n h

seven_digits : (n : ℕ) → n < 10000000 → length (decimal_of n) ≤ 7
unfolding decimal_of
seven_digits n h = digits_most 6 9 n h

ten_digits : (n : ℕ) → n < 10000000000 → length (decimal_of n) ≤ 10
unfolding decimal_of
ten_digits n h = digits_most 9 9 n h

-- ---- in any number of groups
grouped : (k n m : ℕ) → length (decimal_of n) ≤ m + 4 → ((j : ℕ) → length (grouped_by j (n / 1000)) ≤ m)
    → length (grouped_by k n) ≤ m + 4
unfolding grouped_by
grouped zero n m h r = h
grouped (suc k) n m h r =
    let a = length-append (grouped_by k (n / 1000)) (group n) in
    either (λ (w : List ℕ). length w ≤ m + 4) (ltb n 1000) _ _ (λ t. h) (λ t. omega (arith, r k))

one_most : (k n : ℕ) → n < 10 → length (grouped_by k n) ≤ 1
unfolding grouped_by
one_most zero n h = one_digit n h
one_most (suc k) n h = either (λ (w : List ℕ). length w ≤ 1) (ltb n 1000) _ _ (λ t. one_digit n h) (λ t. omega (arith, ltb-false n 1000 t))

five_most : (k n : ℕ) → n < 10000 → length (grouped_by k n) ≤ 5
five_most k n h = grouped k n 1 (omega (arith, four_digits n h)) (λ j. one_most j (n / 1000) (omega arith))

pub grouped_most : (k n : ℕ) → n ≤ 4294967 → length (grouped_by k n) ≤ 9
grouped_most k n h = grouped k n 5 (omega (arith, seven_digits n (omega arith))) (λ j. five_most j (n / 1000) (omega arith))

pub count_most : (n : ℕ) → n < 4294967296 → length (grouped_by 3 n) ≤ 14
count_most n h = grouped 3 n 10 (omega (arith, ten_digits n (omega arith))) (λ j. omega (arith, grouped_most j (n / 1000) (omega arith)))
