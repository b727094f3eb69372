-- The length of a price in dollars.
use Prim.Native.Nat.{ℕ, ◌/◌, ◌≤◌}
use native.Mathlib.Omega.{arith}
use lib.ListN.{length, length-append}
use Rattle.text.proofs.Decimal.{decimal_length}
use Rattle.spelling.specs.Words.{Price, Some, None}
use Rattle.spelling.specs.Dollars.{mills_text, dollars_text}

pub mills_length : (n : ℕ) → length (mills_text n) ≤ 14
unfolding mills_text
mills_length n = simp length-append (omega (arith, decimal_length (n / 1000)))

pub dollars_length : (p : Price) → length (dollars_text p) ≤ 14
unfolding dollars_text
dollars_length (Some m) = mills_length m.0
dollars_length None = omega arith
