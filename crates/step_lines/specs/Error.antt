-- The error's row (RULE R17.7): the price that would be the higher one of an error, whether it is at least the other plus the minimum, by how much it
-- is over or short, and the row of the table that has the minimum.
use Rattle.std.specs.Prelude.{ℕ, Bool, List, [], ◌∷◌}
use Rattle.wire.specs.Tests.{pick}
use Rattle.parties.specs.Parties.{by_side}
use Rattle.words.specs.Names.{error_words, is_at_least_words, is_under_words, plus_words, equals_words, by_words, semicolon_words, obvious_minimum_words, catastrophic_minimum_words, to_words, rule_error_words}
use Rattle.words.specs.Pieces.{bytes_at, nowhere, say, tell, found, blank}
use Rattle.step_lines.specs.Words.{Side, Way, Obvious, Opening, Catastrophic, Off, Place, Piece}
use Rattle.step_lines.specs.Rows.{money}

-- of a buy the execution is held against TP, of a sell TP against the execution; where TP stands its own row has told
abbrev pub high_place : Side → Place
high_place side = by_side side (bytes_at 8 4) nowhere

abbrev pub low_place : Side → Place
low_place side = by_side side nowhere (bytes_at 8 4)

-- the column of the table
abbrev pub minimum_phrase : Way → ℕ
minimum_phrase Obvious = obvious_minimum_words
minimum_phrase Opening = obvious_minimum_words
minimum_phrase Catastrophic = catastrophic_minimum_words

unfoldable pub error_row : Side → Way → Off → List Piece
error_row side way o =
    found error_words (money o.high) (high_place side)
    ∷ found (pick o.wrong is_at_least_words is_under_words) (money o.low) (low_place side)
    ∷ tell plus_words (money o.minimum)
    ∷ tell equals_words (money o.reach)
    ∷ tell by_words (money o.by)
    ∷ tell semicolon_words (money o.minimum)
    ∷ tell (minimum_phrase way) (money o.floor)
    ∷ tell to_words (money o.row.top)
    ∷ say rule_error_words
    ∷ blank ∷ []
