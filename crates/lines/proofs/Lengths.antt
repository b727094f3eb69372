-- No line is longer than 96 bytes: eight numbers of ten digits at most and the outcome's seven letters, each with the byte after it.
use Prim.Native.Nat.{ℕ, ◌≤◌}
use mathlib.Core.List.{List}
use native.Mathlib.Omega.{arith}
use lib.ListN.{length, length-append}
use lib.Dec.{eqb}
use Rattle.facts.specs.Numbers.{price_of}
use Rattle.wire.proofs.Tests.{either}
use Rattle.text.proofs.Decimal.{decimal_length, price_length}
use Rattle.lines.specs.Words.{Figures}
use Rattle.lines.specs.Lines.{header, outcome_word, ruled_line, refused_line, end_line, sheet_line}

word_most : (outcome : ℕ) → length (outcome_word outcome) ≤ 7
unfolding outcome_word
word_most outcome =
    let short : List ℕ → Type 0 = λ w. length w ≤ 7 in
    either short (eqb outcome 0) _ _ (λ _. omega arith)
    (λ _. either short (eqb outcome 1) _ _ (λ _. omega arith)
    (λ _. either short (eqb outcome 2) _ _ (λ _. omega arith) (λ _. omega arith)))

pub ruled_most : (n : Figures) → length (ruled_line n) ≤ 96
unfolding ruled_line
ruled_most n =
    simp length-append
    (omega (
      arith,
      decimal_length n.trade,
      word_most n.outcome,
      decimal_length n.reason,
      price_length (price_of n.tp),
      price_length (price_of n.price),
      decimal_length n.adjusted,
      decimal_length n.nullified,
      decimal_length n.standing,
      decimal_length n.origin,
    ))

pub refused_most : (index number : ℕ) → length (refused_line index number) ≤ 96
unfolding refused_line
refused_most index number = simp length-append (omega (arith, decimal_length index, decimal_length number))

pub header_most : length header ≤ 96
unfolding header
header_most = omega arith

pub end_most : (ruled refused : ℕ) → length (end_line ruled refused) ≤ 96
unfolding end_line
end_most ruled refused = simp length-append (omega (arith, decimal_length ruled, decimal_length refused))

pub sheet_most : (number : ℕ) → length (sheet_line number) ≤ 96
unfolding sheet_line
sheet_most number = simp length-append (omega (arith, decimal_length number))
