-- A row of an explanation is ten pieces: each a phrase, a value, and the place where the value stands; any of the three may be empty.
use Rattle.std.specs.Prelude.{ℕ, List, [], ◌∷◌, ◌++◌}
use Rattle.words.specs.Words.{Place, Value, Nothing, Piece}
use Rattle.words.specs.Phrases.{phrase_of}
use Rattle.words.specs.Values.{value_text, place_text}

unfoldable pub piece_text : Piece → List ℕ
piece_text p = (phrase_of p.phrase ++ value_text p.value) ++ place_text p.place

unfoldable pub row_text : List Piece → List ℕ
row_text [] = []
row_text (p ∷ ps) = piece_text p ++ row_text ps

-- ---- so many bytes of the record from one on; nowhere
abbrev pub bytes_at : ℕ → ℕ → Place
bytes_at at width = record { at = at; width = width }

abbrev pub nowhere : Place
nowhere = bytes_at 0 0

-- a phrase alone; with a value; with a value and the place where it stands
abbrev pub say : ℕ → Piece
say n = record { phrase = n; value = Nothing; place = nowhere }

abbrev pub tell : ℕ → Value → Piece
tell n v = record { phrase = n; value = v; place = nowhere }

abbrev pub found : ℕ → Value → Place → Piece
found n v place = record { phrase = n; value = v; place = place }

-- the piece that has no byte
abbrev pub blank : Piece
blank = say 0
