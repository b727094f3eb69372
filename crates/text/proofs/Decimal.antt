-- The laws of `decimal_of`: how it is spelled digit by digit, 1 to 10 bytes, all digits, no leading zero, and its value is the number.
use Prim.Native.Nat.{ℕ, zero, suc, ◌+◌, ◌-◌, ◌*◌, ◌/◌, ◌%◌, ◌^◌, ◌≤◌, ◌<◌}
use mathlib.Core.Path.{◌≡◌, refl, sym, ap, ◌∙◌}
use mathlib.Core.Bool.{true}
use mathlib.Core.List.{List, [], ◌∷◌, ◌++◌}
use native.Mathlib.Nat.{pow-succ'}
use native.Mathlib.Omega.{arith}
use lib.ListN.{length, get_or, length-append, get_or-append}
use lib.Dec.{ltb}
use borrow.Author.Tests.{lt-ltb, le-ltb, ltb-true, ltb-false}
use Rattle.wire.specs.Tests.{pick, in_range}
use Rattle.wire.proofs.Tests.{range_in, both_true, either}
use Rattle.text.specs.Words.{Price, Some, None}
use Rattle.text.specs.Text.{digit, spelt, decimal_of, price_text, all_digits, value_from, value_of}

-- one more digit of room changes nothing where there was room
fuel : (k n : ℕ) → n < 10 ^ suc k → spelt (suc k) n ≡ spelt k n
unfolding spelt
fuel zero n h = let l : n < 10 = h in simp (lt-ltb n 10 l)
fuel (suc k) n h =
    let e = pow-succ' 10 (suc k) in
    let l : n / 10 < 10 ^ suc k = omega arith in
    ap (λ (x : List ℕ). pick (ltb n 10) (digit n ∷ []) (x ++ (digit (n % 10) ∷ []))) (fuel k (n / 10) l)

-- ---- digit by digit
pub decimal_one : (n : ℕ) → n < 10 → decimal_of n ≡ digit n ∷ []
unfolding decimal_of spelt
decimal_one n h = simp (lt-ltb n 10 h)

pub decimal_more : (n : ℕ) → 10 ≤ n → n < 4294967296 → decimal_of n ≡ decimal_of (n / 10) ++ (digit (n % 10) ∷ [])
unfolding decimal_of spelt
decimal_more n h l = simp (le-ltb n 10 h) (ap (λ (x : List ℕ). x ++ (digit (n % 10) ∷ [])) (sym (fuel 8 (n / 10) (omega arith))))

pub one_long : (n : ℕ) → n < 10 → length (decimal_of n) ≡ 1
one_long n h = ap length (decimal_one n h)

pub more_long : (n : ℕ) → 10 ≤ n → n < 4294967296 → length (decimal_of n) ≡ length (decimal_of (n / 10)) + 1
more_long n h l = ap length (decimal_more n h l) ∙ length-append (decimal_of (n / 10)) (digit (n % 10) ∷ [])

-- ---- 1 to 10 bytes
abbrev Long : ℕ → List ℕ → Type 0
Long m w = (1 ≤ length w) × (length w ≤ m)

spelt_length : (k n : ℕ) → Long (k + 1) (spelt k n)
unfolding spelt
spelt_length zero n = (omega arith, omega arith)
spelt_length (suc k) n =
    let e = length-append (spelt k (n / 10)) (digit (n % 10) ∷ []) in
    let h = spelt_length k (n / 10) in
    either (Long (suc k + 1)) (ltb n 10) _ _ (λ _. (omega arith, omega arith)) (λ _. (omega arith, omega arith))

pub decimal_length : (n : ℕ) → (1 ≤ length (decimal_of n)) × (length (decimal_of n) ≤ 10)
unfolding decimal_of
decimal_length n = spelt_length 9 n

pub price_length : (p : Price) → (1 ≤ length (price_text p)) × (length (price_text p) ≤ 10)
unfolding price_text
price_length (Some m) = decimal_length m.0
price_length None = (omega arith, omega arith)

-- ---- what holds of one digit, and with one digit more, holds of each decimal
module _ (P : ℕ → List ℕ → Type 0) (one : (n : ℕ) → n < 10 → P n (digit n ∷ []))
    (more : (n : ℕ) (w : List ℕ) → 10 ≤ n → P (n / 10) w → P n (w ++ (digit (n % 10) ∷ []))) where
  spelt_each : (k n : ℕ) → n < 10 ^ suc k → P n (spelt k n)
  unfolding spelt
  spelt_each zero n h = one n h
  spelt_each (suc k) n h =
      let e = pow-succ' 10 (suc k) in
      let l : n / 10 < 10 ^ suc k = omega arith in
      let tenth = spelt_each k (n / 10) l in
      either (P n) (ltb n 10) _ _ (λ t. one n (ltb-true n 10 t)) (λ t. more n _ (ltb-false n 10 t) tenth)

  decimal_each : (n : ℕ) → n < 4294967296 → P n (decimal_of n)
  unfolding decimal_of
  decimal_each n h = spelt_each 9 n (omega arith)

-- every byte is a digit
digits_append : (w v : List ℕ) → all_digits w ≡ true → all_digits v ≡ true → all_digits (w ++ v) ≡ true
digits_append [] v h k = k
digits_append (b ∷ w) v h k =
    let e = both_true (in_range 48 57 b) (all_digits w) h in rw e.0 (digits_append w v e.1 k)

one_digit : (d : ℕ) → d < 10 → all_digits (digit d ∷ []) ≡ true
one_digit d h = rw (range_in 48 57 (digit d) (omega arith) (omega arith))

pub decimal_digits : (n : ℕ) → n < 4294967296 → all_digits (decimal_of n) ≡ true
decimal_digits =
    decimal_each (λ n w. all_digits w ≡ true)
    one_digit
    (λ n w h e. digits_append w _ e (one_digit (n % 10) (omega arith)))

-- the first byte is not `0`, but for the number 0, which is `0` alone
pub decimal_zero : decimal_of 0 ≡ digit 0 ∷ []
decimal_zero = decimal_one 0 (omega arith)

pub decimal_first : (n : ℕ) → n < 4294967296 → 1 ≤ n → digit 1 ≤ get_or (decimal_of n) 0 0
decimal_first n h =
    (decimal_each (λ n w. (1 ≤ length w) × (1 ≤ n → digit 1 ≤ get_or w 0 0))
    (λ n h. (omega arith, λ p. omega arith))
    (λ n w h e. (omega (arith, e.0, length-append w (digit (n % 10) ∷ [])), λ p. rw (get_or-append w _ 0 0 e.0) (e.1 (omega arith))))
    n
    h
    ).1

-- the digits stand for the number, so that two numbers never read alike
value_append : (m : ℕ) (w v : List ℕ) → value_from m (w ++ v) ≡ value_from (value_from m w) v
value_append m [] v = refl
value_append m (b ∷ w) v = value_append (m * 10 + (b - 48)) w v

pub decimal_value : (n : ℕ) → n < 4294967296 → value_of (decimal_of n) ≡ n
decimal_value =
    decimal_each (λ n w. value_of w ≡ n)
    (λ n h. omega arith)
    (λ n w h e. value_append 0 w (digit (n % 10) ∷ []) ∙ rw e (omega arith))
