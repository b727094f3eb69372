-- What is said of a sheet that is filled (RULE R16.19, R16.24): a line for each case that is left as it was, then how many are filled, how many left and
-- how many quotes were read; or the one line that refuses the whole.
use Rattle.std.specs.Prelude.{ℕ, ◌-◌, List, [], ◌∷◌, ◌++◌, eqb}
use Rattle.wire.specs.Laid.{row}
use Rattle.wire.specs.Tests.{pick}
use Rattle.text.specs.Text.{letters, decimal_of}
use Rattle.phrases.specs.Phrases.{refusal_text}
use Rattle.sheet.specs.Sheet.{cases_in}
use Rattle.fillings.specs.Fillings.{fill_sheet_refusal_of, fill_number, filled_in, read_in}

-- a case that is left as it was: `#` joined to its index from 0, and the line of its number
unfoldable pub left_line : ℕ → ℕ → List ℕ
left_line index number = letters "#" ++ decimal_of index ++ letters " left as it was: " ++ refusal_text number

-- nothing is said of a case that is filled
unfoldable pub told_of : ℕ → ℕ → List ℕ
told_of index number = pick (eqb number 0) [] (left_line index number)

-- what is said of case k
abbrev pub told : List ℕ → List ℕ → ℕ → List ℕ
told quotes s k = told_of k (fill_number quotes s k)

-- the last line: how many cases are filled, how many left, and how many quotes were read for all of them; 10 is the line feed
unfoldable pub count_line : ℕ → ℕ → ℕ → List ℕ
count_line filled left read = decimal_of filled ++ letters " filled, " ++ decimal_of left ++ letters " left; " ++ decimal_of read ++ (letters " quotes read over all cases" ++ (10 ∷ []))

-- of n cases: what is said of each, in order, then the counts
abbrev pub cases_text : List ℕ → List ℕ → ℕ → List ℕ
cases_text quotes s n = row (told quotes s) n ++ count_line (filled_in quotes s n) (n - filled_in quotes s n) (read_in quotes s n)

-- whose bytes are refused: the sheet's with 10, the quotes' with 20 to 22
unfoldable pub owner_word : ℕ → List ℕ
owner_word number = pick (eqb number 10) (letters "SHEET ") (letters "QUOTES ")

-- nothing is filled: whose fault, and the line of the number
abbrev pub whole_line : ℕ → List ℕ
whole_line number = owner_word number ++ refusal_text number

-- the text of a sheet
unfoldable pub fill_text : List ℕ → List ℕ → List ℕ
fill_text quotes s =
    pick (eqb (fill_sheet_refusal_of quotes s) 0) (cases_text quotes s (cases_in s)) (whole_line (fill_sheet_refusal_of quotes s))
