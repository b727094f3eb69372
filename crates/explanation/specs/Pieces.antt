-- The explanation of a sheet (RULE R17.1), for every byte string that is brought as one, in pieces: the head, each case, END.
use Rattle.std.specs.Prelude.{ℕ, zero, suc, Bool, true, List, [], ◌∷◌, ◌++◌, ltb, eqb}
use Rattle.wire.specs.Numbers.{number_at}
use Rattle.wire.specs.Laid.{row}
use Rattle.wire.specs.Tests.{pick}
use Rattle.text.specs.Text.{letters}
use Rattle.words.specs.Rows.{index_text}
use Rattle.sheet.specs.Sheet.{case_at, cases_in, whole_cases}
use Rattle.report.specs.Pieces.{piece_of, pieces_in}
use Rattle.explanation.specs.Words.{Wanted, None, Some}
use Rattle.explanation.specs.Explained.{explained_of}

-- it is for the desk, and no party sees it
unfoldable pub desk_alone : List ℕ
desk_alone = letters "FOR THE DESK ALONE: limits are shown" ++ (10 ∷ [])

-- every case, or those with a trade number
abbrev pub wanted : Wanted → List ℕ → Bool
wanted None c = true
wanted (Some n) c = eqb (number_at 4 c 4) n

-- a case with its index before it; nothing of one that is not asked for
abbrev pub indexed : ℕ → List ℕ → List ℕ
indexed k c = index_text k ++ explained_of c

unfoldable pub case_piece : Wanted → ℕ → List ℕ → List ℕ
case_piece want k c = pick (wanted want c) (indexed k c) []

-- of n cases; what follows them is what follows the lines of a report
abbrev pub explain_piece : List ℕ → ℕ → Wanted → ℕ → List ℕ
explain_piece s n want zero = desk_alone
explain_piece s n want (suc k) = pick (ltb k n) (case_piece want k (case_at s k)) (piece_of s (suc k))

-- piece k; a sheet refused whole has the piece of its report
unfoldable pub explained_piece : List ℕ → Wanted → ℕ → List ℕ
explained_piece s want k = pick (whole_cases s) (explain_piece s (cases_in s) want k) (piece_of s k)

-- all of it: as many pieces as a report has
unfoldable pub explanation_of : List ℕ → Wanted → List ℕ
explanation_of s want = row (explained_piece s want) (pieces_in s)
