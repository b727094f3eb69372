-- The ways in which a call ends (RULE R3.0.2 to R3.0.11).
use Rattle.std.specs.Prelude.{ℕ, ◌*◌, ◌≤◌, ◌<◌, ◌≡◌, true, ◌⊎◌, List, [], ◌∷◌, length, get_or}
use Rattle.wire.specs.Laid.{laid, row}
use Rattle.cases.specs.Cases.{reading_of}
use Rattle.answer.specs.Answer.{answer_of}
use Rattle.filling.specs.Filling.{filling_of}
use Rattle.sheet.specs.declared.SheetAnswer.{SheetAnswer}
use Rattle.sheet.specs.Sheet.{whole, case_at, cases_in, refusal_bytes, entry_of, refused_whole, ruled_whole}

-- ---- the numbers of each call, in the order of its tests

-- reading a case: 1, then 2 to 9
abbrev pub read_numbers : List ℕ
read_numbers = 1 ∷ 2 ∷ 3 ∷ 4 ∷ 5 ∷ 6 ∷ 7 ∷ 8 ∷ 9 ∷ []

-- writing a case: 11, then 4 to 9 (3 cannot arise: the facts' types have no other cases)
abbrev pub write_numbers : List ℕ
write_numbers = 11 ∷ 4 ∷ 5 ∷ 6 ∷ 7 ∷ 8 ∷ 9 ∷ []

-- ruling a case: 1, 11, then 2 to 9
abbrev pub case_numbers : List ℕ
case_numbers = 1 ∷ 11 ∷ 2 ∷ 3 ∷ 4 ∷ 5 ∷ 6 ∷ 7 ∷ 8 ∷ 9 ∷ []

-- a case of a sheet: 3 to 9 (1 and 2 cannot arise: a sheet is cut by what these test, or refused 10 whole)
abbrev pub entry_numbers : List ℕ
entry_numbers = 3 ∷ 4 ∷ 5 ∷ 6 ∷ 7 ∷ 8 ∷ 9 ∷ []

-- the quotes and a trade's time: 20 to 23
abbrev pub quote_numbers : List ℕ
quote_numbers = 20 ∷ 21 ∷ 22 ∷ 23 ∷ []

-- looking up the best bid and offer: these, then 28
abbrev pub look_numbers : List ℕ
look_numbers = 20 ∷ 21 ∷ 22 ∷ 23 ∷ 28 ∷ []

-- filling a case: 1, then 2 to 9, then 20 to 22 (23 cannot arise: an accepted case's execution time is a time of day; nor can 28: filling finds the
-- number itself)
abbrev pub fill_numbers : List ℕ
fill_numbers = 1 ∷ 2 ∷ 3 ∷ 4 ∷ 5 ∷ 6 ∷ 7 ∷ 8 ∷ 9 ∷ 20 ∷ 21 ∷ 22 ∷ []

-- filling a sheet: 10, then 20 to 22
abbrev pub fill_sheet_numbers : List ℕ
fill_sheet_numbers = 10 ∷ 20 ∷ 21 ∷ 22 ∷ []

-- n is one of these numbers
abbrev pub OneOf : List ℕ → ℕ → Type 0
OneOf [] n = ⊥
OneOf (m ∷ ms) n = (n ≡ m) ⊎ OneOf ms n

-- n is 0, or one of these numbers
abbrev pub Told : List ℕ → ℕ → Type 0
Told numbers n = (n ≡ 0) ⊎ OneOf numbers n

-- ---- a case

-- The number, with the bytes for a buffer of `room` bytes: 0, and exactly `size` bytes, for which there is room; or one of these numbers, and no byte.
abbrev pub Answered : ℕ → List ℕ → ℕ → ℕ × List ℕ → Type 0
Answered size numbers room a = ((a.0 ≡ 0) × (size ≤ room) × (length a.1 ≡ size)) ⊎ (OneOf numbers a.0 × (a.1 ≡ []))

-- The number, with the buffer before and after the call: 0, and exactly `size` bytes stand over its start, where there is room, and every
-- byte after them is kept; or one of these numbers, and the buffer is as it was.
abbrev pub Ended : ℕ → List ℕ → ℕ → List ℕ → List ℕ → Type 0
Ended size numbers n before after =
    ((n ≡ 0) × (size ≤ length before) × ((w : List ℕ) × (length w ≡ size) × (after ≡ laid w before))) ⊎ (OneOf numbers n × (after ≡ before))

-- The number, with the case before and after a filling: 0, and the case has its length and every byte outside 20 to 35; or one of the numbers,
-- and the case is as it was.
abbrev pub FillEnded : ℕ → List ℕ → List ℕ → Type 0
FillEnded n before after =
    ((n ≡ 0) × (length after ≡ length before) × ((i : ℕ) → (i < 20) ⊎ (36 ≤ i) → get_or after i 0 ≡ get_or before i 0)) ⊎ (OneOf fill_numbers n × (after ≡ before))

-- ---- a sheet

-- The answer, with the bytes for a buffer of `room` bytes: the row of the cases' entries with their counts, for which there is room; or 10
-- or 11, counts of 0 and no byte.
abbrev pub SheetAnswered : List ℕ → ℕ → SheetAnswer × List ℕ → Type 0
SheetAnswered s room a = ((a ≡ ruled_whole s (cases_in s)) × (cases_in s * 96 ≤ room)) ⊎ ((a ≡ refused_whole 10) ⊎ (a ≡ refused_whole 11))

-- The answer, as a caller is told it, with the buffer before and after the call: the row of the entries stands over its start, where there
-- is room for 96 bytes a case, and every byte after them is kept; or the sheet is refused whole, and the buffer is as it was.
abbrev pub SheetEnded : {A : Type 0} → (SheetAnswer → A) → List ℕ → A → List ℕ → List ℕ → Type 0
SheetEnded view s r before after =
    ((r ≡ view (ruled_whole s (cases_in s)).0) × (cases_in s * 96 ≤ length before) × (after ≡ laid (row (entry_of s) (cases_in s)) before))
    ⊎ (((r ≡ view (refused_whole 10).0) ⊎ (r ≡ view (refused_whole 11).0)) × (after ≡ before))

-- The number, with the sheet before and after a filling: 0, and the sheet has its length, is whole, has as many cases, and each of them is what
-- filling makes of that case by itself; or one of the numbers, and the sheet is as it was.
abbrev pub SheetFilled : List ℕ → List ℕ → ℕ → List ℕ → Type 0
SheetFilled q s n after =
    ((n ≡ 0)
    × (length after ≡ length s)
    × (whole after ≡ true)
    × (cases_in after ≡ cases_in s)
    × ((k : ℕ) → k < cases_in s → case_at after k ≡ (filling_of q (case_at s k)).1))
    ⊎ (OneOf fill_sheet_numbers n × (after ≡ s))

-- Case k of a sheet: accepted, its entry is the 96 bytes of its answer; or refused with one of 3 to 9, its entry is the refusal record of 12
-- bytes with its index and number.
abbrev pub Entered : List ℕ → ℕ → Type 0
Entered s k =
    let r = reading_of (case_at s k) in
    ((r.refusal ≡ 0) × (entry_of s k ≡ answer_of r.facts) × (length (entry_of s k) ≡ 96))
    ⊎ (OneOf entry_numbers r.refusal × (entry_of s k ≡ refusal_bytes k r.refusal) × (length (entry_of s k) ≡ 12))
