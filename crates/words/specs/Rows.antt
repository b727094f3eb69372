-- The rows of an explanation, one after the other, and what stands before those of a case.
use Rattle.std.specs.Prelude.{ℕ, List, [], ◌∷◌, ◌++◌}
use Rattle.text.specs.Text.{letters, decimal_of}
use Rattle.words.specs.Words.{Piece}
use Rattle.words.specs.Pieces.{row_text}

unfoldable pub rows_text : List (List Piece) → List ℕ
rows_text [] = []
rows_text (r ∷ rs) = row_text r ++ rows_text rs

-- a case's index in its sheet: `#` joined to it, and a space (RULE R17.1)
unfoldable pub index_text : ℕ → List ℕ
index_text k = (letters "#" ++ decimal_of k) ++ letters " "
