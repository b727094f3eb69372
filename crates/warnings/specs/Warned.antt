-- What is told beside the printed rulings of a sheet (RULE R17.13): of each case that has a price which may be turned its index, its trade and the
-- careful lines.
use Rattle.std.specs.Prelude.{ℕ, List, [], ◌∷◌, ◌++◌, ltb}
use Rattle.wire.specs.Numbers.{number_at}
use Rattle.wire.specs.Laid.{row}
use Rattle.wire.specs.Tests.{pick}
use Rattle.sheet.specs.Sheet.{case_at, cases_in, whole_cases}
use Rattle.words.specs.Names.{trade_words, end_words}
use Rattle.words.specs.Pieces.{say, tell, blank}
use Rattle.words.specs.Rows.{rows_text, index_text}
use Rattle.careful.specs.Careful.{cautions_of, any_caution}
use Rattle.careful_lines.specs.Lines.{careful_rows}
use Rattle.warnings.specs.Words.{Cautions, Number, Piece}

unfoldable pub trade_row : ℕ → List Piece
trade_row trade = tell trade_words (Number trade) ∷ say end_words ∷ blank ∷ blank ∷ blank ∷ blank ∷ blank ∷ blank ∷ blank ∷ blank ∷ []

abbrev pub warned_rows : ℕ → Cautions → List (List Piece)
warned_rows trade c = trade_row trade ∷ careful_rows c

abbrev pub warned_text : ℕ → ℕ → Cautions → List ℕ
warned_text k trade c = index_text k ++ rows_text (warned_rows trade c)

-- nothing of a case that has none
unfoldable pub warned_case : ℕ → List ℕ → List ℕ
warned_case k s = pick (any_caution (cautions_of s)) (warned_text k (number_at 4 s 4) (cautions_of s)) []

-- of case k; nothing of a sheet refused whole, nor behind its last case
abbrev pub warned_at : List ℕ → ℕ → ℕ → List ℕ
warned_at s n k = pick (ltb k n) (warned_case k (case_at s k)) []

unfoldable pub warned_piece : List ℕ → ℕ → List ℕ
warned_piece s k = pick (whole_cases s) (warned_at s (cases_in s) k) []

-- all of it: a sheet has at most 600 cases
unfoldable pub warnings_of : List ℕ → List ℕ
warnings_of s = row (warned_piece s) 600
