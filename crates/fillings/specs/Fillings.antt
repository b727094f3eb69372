-- A whole sheet filled from the exchanges' quotes: the sheet and the quotes are tested once, then each case is filled as by itself (RULE R16.10 to
-- R16.12), and the quotes that are read for them are counted (RULE R16.24).
use Rattle.std.specs.Prelude.{ℕ, zero, suc, ◌+◌, List, ◌∷◌, eqb}
use Rattle.wire.specs.Laid.{row}
use Rattle.wire.specs.Tests.{pick, first_failed}
use Rattle.sheet.specs.Sheet.{case_at, cases_in, whole_cases}
use Rattle.quotes.specs.Quotes.{whole_quotes, list_tests}
use Rattle.filling.specs.Filling.{filling_of, fill_read_of}

-- ---- the sheet is tested with 10, then the quotes with 20 to 22 (RULE R3.0.11); 23 is for a trade's time, and each case has its own
unfoldable pub fill_sheet_refusal_of : List ℕ → List ℕ → ℕ
fill_sheet_refusal_of quotes s = first_failed ((10, whole_cases s) ∷ (20, whole_quotes quotes) ∷ list_tests quotes)

-- ---- a case by itself

-- the number that case k gets: 0 where it is filled
abbrev pub fill_number : List ℕ → List ℕ → ℕ → ℕ
fill_number quotes s k = (filling_of quotes (case_at s k)).0

-- what its bytes become: those of a case that is not filled stay
abbrev pub filled_case : List ℕ → List ℕ → ℕ → List ℕ
filled_case quotes s k = (filling_of quotes (case_at s k)).1

-- a case that got this number counts one if it is filled
unfoldable pub filled_one : ℕ → ℕ
filled_one number = pick (eqb number 0) 1 0

-- how many of the first n cases are filled
unfoldable pub filled_in : List ℕ → List ℕ → ℕ → ℕ
filled_in quotes s zero = 0
filled_in quotes s (suc k) = filled_in quotes s k + filled_one (fill_number quotes s k)

-- how many quotes are read for case k, and for the first n cases
abbrev pub case_read : List ℕ → List ℕ → ℕ → ℕ
case_read quotes s k = fill_read_of quotes (case_at s k)

unfoldable pub read_in : List ℕ → List ℕ → ℕ → ℕ
read_in quotes s zero = 0
read_in quotes s (suc k) = read_in quotes s k + case_read quotes s k

-- ---- the number, with what the sheet's bytes become: beside a refusal what they were, else the cases in their order
unfoldable pub fill_sheet_of : List ℕ → List ℕ → ℕ × List ℕ
fill_sheet_of quotes s =
    pick (eqb (fill_sheet_refusal_of quotes s) 0) (0, row (filled_case quotes s) (cases_in s)) (fill_sheet_refusal_of quotes s, s)
