-- No text is longer than 131,072 bytes: the longest has 600 lines of 118 bytes, and one of 74.
use Prim.Native.Nat.{ℕ, ◌-◌, ◌≤◌}
use mathlib.Core.List.{List, []}
use native.Mathlib.Omega.{arith}
use lib.ListN.{length, length-append}
use lib.Dec.{eqb}
use borrow.Author.Tests.{eqb-true}
use Rattle.wire.proofs.Tests.{either}
use Rattle.wire.proofs.Rows.{row_most}
use Rattle.text.proofs.Decimal.{decimal_length}
use Rattle.text.specs.Text.{letters}
use Rattle.phrases.proofs.Lengths.{refusal_most}
use Rattle.sheet.specs.Sheet.{cases_in}
use Rattle.sheet.proofs.Turns.{whole_few}
use Rattle.fillings.specs.Fillings.{fill_number, filled_in, read_in, fill_sheet_refusal_of}
use Rattle.fillings.proofs.Laws.{whole_first}
use Rattle.fill_report.specs.Told.{left_line, told_of, told, count_line, cases_text, owner_word, whole_line, fill_text}

left_most : (index number : ℕ) → length (left_line index number) ≤ 118
unfolding left_line
left_most index number = simp length-append (omega (arith, decimal_length index, refusal_most number))

told_most : (index number : ℕ) → length (told_of index number) ≤ 118
unfolding told_of
told_most index number = either (λ (w : List ℕ). length w ≤ 118) (eqb number 0) [] (left_line index number) (λ _. omega arith) (λ _. left_most index number)

count_most : (filled left read : ℕ) → length (count_line filled left read) ≤ 74
unfolding count_line
count_most filled left read = simp length-append (omega (arith, decimal_length filled, decimal_length left, decimal_length read))

owner_most : (number : ℕ) → length (owner_word number) ≤ 7
unfolding owner_word
owner_most number = either (λ (w : List ℕ). length w ≤ 7) (eqb number 10) (letters "SHEET ") (letters "QUOTES ") (λ _. omega arith) (λ _. omega arith)

whole_most : (number : ℕ) → length (whole_line number) ≤ 97
whole_most number = simp length-append (omega (arith, owner_most number, refusal_most number))

cases_most : (q s : List ℕ) → cases_in s ≤ 600 → length (cases_text q s (cases_in s)) ≤ 131072
cases_most q s h =
    let rows = row_most (told q s) 118 (λ k. told_most k (fill_number q s k)) (cases_in s) in
    simp length-append (omega (arith, rows, count_most (filled_in q s (cases_in s)) (cases_in s - filled_in q s (cases_in s)) (read_in q s (cases_in s))))

pub text_most : (q s : List ℕ) → length (fill_text q s) ≤ 131072
unfolding fill_text
text_most q s =
    either (λ (w : List ℕ). length w ≤ 131072) (eqb (fill_sheet_refusal_of q s) 0) (cases_text q s (cases_in s)) (whole_line (fill_sheet_refusal_of q s))
    (λ e. cases_most q s (whole_few s (whole_first q s (eqb-true (fill_sheet_refusal_of q s) 0 e))))
    (λ _. omega (arith, whole_most (fill_sheet_refusal_of q s)))
