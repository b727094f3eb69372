-- What a sheet answers (RULE R3.0.5, R10.3 to R10.6). A sheet is a row of cases, cut as `Cut` says.
use Rattle.std.specs.Prelude.{ℕ, zero, suc, ◌+◌, ◌-◌, ◌*◌, Bool, ◌&&◌, List, [], ◌∷◌, ◌++◌, length, leb, eqb}
use Rattle.wire.specs.Numbers.{bytes}
use Rattle.wire.specs.Laid.{row}
use Rattle.wire.specs.Tests.{pick, first_failed}
use Rattle.cases.specs.Cases.{reading_of}
use Rattle.answer.specs.Answer.{answer_of}
unfoldable pub use Rattle.cut.specs.Cut.{whole, case_at, start_of}
pub use Rattle.cut.specs.Cut.{cases_in}
use Rattle.sheet.specs.Words.{Reading, SheetAnswer}

-- ---- what a case adds. A judgement doesn't know its index.

-- 0 length 12; 2 kind 18; 4 index from 0; 8 number; 10 two zeros
unfoldable pub refusal_bytes : ℕ → ℕ → List ℕ
refusal_bytes index number = bytes 2 12 ++ bytes 2 18 ++ bytes 4 index ++ bytes 2 number ++ bytes 2 0

-- a ruled case has its 96 bytes of answer, a refused one its refusal record
unfoldable pub entry_bytes : ℕ → Reading → List ℕ
entry_bytes index r = pick (eqb r.refusal 0) (answer_of r.facts) (refusal_bytes index r.refusal)

unfoldable pub ruled_one : Reading → ℕ
ruled_one r = pick (eqb r.refusal 0) 1 0

-- ---- the row of them: each case as by itself, in order
abbrev pub entry_of : List ℕ → ℕ → List ℕ
entry_of s k = entry_bytes k (reading_of (case_at s k))

-- how many of the first n cases are ruled
unfoldable pub ruled_in : List ℕ → ℕ → ℕ
ruled_in s zero = 0
ruled_in s (suc k) = ruled_in s k + ruled_one (reading_of (case_at s k))

-- ---- the whole sheet: 10 where it is no row of whole cases or too long, then 11, then each case
unfoldable pub whole_cases : List ℕ → Bool
whole_cases s = whole s && leb (length s) 52800

unfoldable pub sheet_refusal_of : List ℕ → ℕ → ℕ
sheet_refusal_of s room = first_failed ((10, whole_cases s) ∷ (11, leb (cases_in s * 96) room) ∷ [])

abbrev pub refused_whole : ℕ → SheetAnswer × List ℕ
refused_whole n = (record { refusal = n; written = 0; ruled = 0; refused = 0 }, [])

abbrev pub ruled_whole : List ℕ → ℕ → SheetAnswer × List ℕ
ruled_whole s n = (record { refusal = 0; written = length (row (entry_of s) n); ruled = ruled_in s n; refused = n - ruled_in s n }, row (entry_of s) n)

-- the answer, with the bytes that are written into a buffer of `room` bytes: none where the sheet is refused whole
unfoldable pub sheet_of : List ℕ → ℕ → SheetAnswer × List ℕ
sheet_of s room = pick (eqb (sheet_refusal_of s room) 0) (ruled_whole s (cases_in s)) (refused_whole (sheet_refusal_of s room))
