-- A few sheets, cut, by computation: kinds side by side, and bytes that are no row of whole cases (RULE R3.10).
use Rattle.std.specs.Prelude.{ℕ, ◌≡◌, refl, true, false, List, [], ◌∷◌, ◌++◌, replicate}
use Rattle.wire.specs.Numbers.{number_at}
use Rattle.forms.specs.Heads.{pairs, known}
use Rattle.cut.specs.Cut.{begins, case_length, cut_by, cut, cases_in, whole, start_of}
use Rattle.sheet.specs.Sheet.{whole_cases, sheet_refusal_of}

-- a head, and zeros after it
abbrev bytes_of : ℕ → ℕ → ℕ → List ℕ
bytes_of size kind more = size ∷ 0 ∷ kind ∷ 0 ∷ replicate more 0

-- Kinds 1, 2, 1 are three cases, which begin at 0, 88 and 180.
abbrev three : List ℕ
three = bytes_of 88 1 84 ++ bytes_of 92 2 88 ++ bytes_of 88 1 84

pub three_cases : (cases_in three ≡ 3) × (whole three ≡ true) × (start_of three 1 ≡ 88) × (start_of three 2 ≡ 180)
unfolding pairs known begins case_length number_at cut_by cut whole start_of
three_cases = (refl, refl, refl, refl)

-- Three bytes more, a last byte less, kind 1 in 92 bytes or kind 2 in 88, and the sheet is not whole.
pub not_whole : (whole (bytes_of 88 1 84 ++ 88 ∷ 0 ∷ 1 ∷ []) ≡ false)
    × (whole (bytes_of 88 1 84 ++ bytes_of 92 2 87) ≡ false)
    × (whole (bytes_of 88 1 84 ++ bytes_of 92 1 88) ≡ false)
    × (whole (bytes_of 88 2 84) ≡ false)
unfolding pairs known begins case_length number_at cut_by cut whole
not_whole = (refl, refl, refl, refl)

-- A sheet with one bad head is refused with 10, also where there is no room (11).
pub ten_first : sheet_refusal_of (bytes_of 88 1 84 ++ bytes_of 92 1 88) 0 ≡ 10
unfolding pairs known begins case_length number_at cut_by cut whole whole_cases sheet_refusal_of
ten_first = refl
