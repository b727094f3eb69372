-- No line of a refusal is longer than 90 bytes: no words of the table are longer than 60.
use Prim.Native.Nat.{ℕ, ◌≤◌}
use mathlib.Core.List.{List}
use native.Mathlib.Omega.{arith}
use lib.ListN.{length, length-append}
use lib.Dec.{T, leb, eqb, leb→le}
use Rattle.wire.specs.Tests.{pick}
use Rattle.wire.proofs.Tests.{either}
use Rattle.text.proofs.Decimal.{decimal_length}
use Rattle.phrases.specs.Phrases.{refusal_words, refusal_text}

short : (n k : ℕ) (w v : List ℕ) → T (leb (length w) 60) → length v ≤ 60 → length (pick (eqb n k) w v) ≤ 60
short n k w v a b = either (λ (x : List ℕ). length x ≤ 60) (eqb n k) w v (λ _. leb→le (length w) 60 a) (λ _. b)

pub words_most : (n : ℕ) → length (refusal_words n) ≤ 60
unfolding refusal_words
words_most n =
    short n 1 _ _ tt (short n 2 _ _ tt (short n 3 _ _ tt (short n 4 _ _ tt (short n 5 _ _ tt (short n 6 _ _ tt (short n 7 _ _ tt (short n 8 _ _ tt (short n 9 _ _ tt (short n 10 _ _ tt (short n 20 _ _ tt (short n 21 _ _ tt (short n 22 _ _ tt (short n 23 _ _ tt (omega arith))))))))))))))

pub refusal_most : (n : ℕ) → length (refusal_text n) ≤ 90
unfolding refusal_text
refusal_most n = simp length-append (omega (arith, decimal_length n, words_most n))
