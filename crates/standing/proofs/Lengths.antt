-- No text is longer than 4,096 bytes: the longest has a first line of 23, two halves of 41 bytes and sixteen lines of 49, and a last line of 37.
use Prim.Native.Nat.{ℕ, ◌+◌, ◌≤◌}
use mathlib.Core.List.{List}
use native.Mathlib.Omega.{arith}
use lib.ListN.{length, length-append}
use lib.Dec.{eqb}
use Rattle.wire.proofs.Tests.{either}
use Rattle.wire.proofs.Rows.{row_most}
use Rattle.text.proofs.Decimal.{decimal_length}
use Rattle.spelling.proofs.Times.{time_length}
use Rattle.phrases.proofs.Lengths.{refusal_most}
use Rattle.quotes.specs.Quotes.{posted_in}
use Rattle.earlier.specs.Earlier.{earlier}
use Rattle.best.specs.Lasts.{last_of}
use Rattle.best.specs.Examined.{examined_in}
use Rattle.best.specs.Found.{best_in, found_of}
use Rattle.best_lines.proofs.Lengths.{head_most, sayer_most}
use Rattle.standing.specs.Words.{Quote, Posted, Half, Bid, Offer, Typed, Some, None}
use Rattle.standing.specs.Standing.{sayer_of, born_text, before_line, read_line, standing_text, lookup_line, found_text, best_text}

born_most : (h : Half) (best : Quote) (qs : List Posted) → length (born_text h best qs) ≤ 825
unfolding born_text
born_most h best qs =
    simp length-append
    (omega (arith, head_most h best, row_most (sayer_of h best.price qs) 49 (λ k. sayer_most h best.price (last_of (k + 1) qs)) 16))

before_long : (t : ℕ) → length (before_line t) ≤ 23
unfolding before_line
before_long t = simp length-append (omega (arith, time_length t))

read_most : (examined before : ℕ) → length (read_line examined before) ≤ 37
unfolding read_line
read_most examined before = simp length-append (omega (arith, decimal_length examined, decimal_length before))

standing_most : (t : ℕ) (qs : List Posted) → length (standing_text t qs) ≤ 1710
unfolding standing_text
standing_most t qs =
    simp length-append
    (omega (arith, before_long t, born_most Bid (best_in Bid qs) qs, born_most Offer (best_in Offer qs) qs, read_most (examined_in qs) (length qs)))

-- ---- a refusal
lookup_most : (n : ℕ) → length (lookup_line n) ≤ 97
unfolding lookup_line
lookup_most n = simp length-append (omega (arith, refusal_most n))

-- ---- any text
found_most : (s : List ℕ) (t : ℕ) → length (found_text s t) ≤ 1710
unfolding found_text
found_most s t =
    either (λ (w : List ℕ). length w ≤ 1710) (eqb (found_of s t).refusal 0) (standing_text t (earlier t (posted_in s))) (lookup_line (found_of s t).refusal)
    (λ _. standing_most t (earlier t (posted_in s)))
    (λ _. omega (arith, lookup_most (found_of s t).refusal))

pub text_most : (s : List ℕ) (typed : Typed) → length (best_text s typed) ≤ 4096
unfolding best_text
text_most s (Some t) = omega (arith, found_most s t)
text_most s None = omega arith
