-- The lines that the printer writes (RULE R11).
use Rattle.std.specs.Prelude.{ℕ, List, [], ◌∷◌, ◌++◌, eqb}
use Rattle.wire.specs.Tests.{pick}
use Rattle.facts.specs.Numbers.{price_of}
use Rattle.text.specs.Text.{letters, decimal_of, price_text}
use Rattle.lines.specs.Words.{Figures}

-- a field and the byte after it: 32 is a space, 10 a line feed
abbrev pub ended : List ℕ → ℕ → List ℕ
ended field end = field ++ (end ∷ [])

-- fields with one space between them, and a line feed after the last
abbrev pub line : List (List ℕ) → List ℕ
line [] = 10 ∷ []
line (f ∷ []) = ended f 10
line (f ∷ g ∷ fs) = f ++ (32 ∷ line (g ∷ fs))

-- the header comes first, over an empty sheet too
unfoldable pub header : List ℕ
header = line (letters "TRADE OUTCOME REASON TP NEW ADJ NUL OLD FROM" ∷ [])

-- the word for an outcome: 0 no relief, 1 adjusted, 2 nullified, and 3, the only other, waiting
unfoldable pub outcome_word : ℕ → List ℕ
outcome_word outcome =
    pick (eqb outcome 0) (letters "NONE") (pick (eqb outcome 1) (letters "ADJUST") (pick (eqb outcome 2) (letters "NULLIFY") (letters "WAIT")))

-- contracts adjusted, nullified, standing, and last the origin of TP: 1 a quote, 2 an official, 0 none
abbrev pub last_fields : Figures → List (List ℕ)
last_fields n = decimal_of n.adjusted ∷ decimal_of n.nullified ∷ decimal_of n.standing ∷ decimal_of n.origin ∷ []

-- A ruled case: trade, the outcome's word, reason, TP, new price, contracts adjusted, nullified, standing, origin; prices in mills, `-` for none.
unfoldable pub ruled_line : Figures → List ℕ
ruled_line n =
    line (
    decimal_of n.trade
    ∷ outcome_word n.outcome
    ∷ decimal_of n.reason
    ∷ price_text (price_of n.tp)
    ∷ price_text (price_of n.price)
    ∷ last_fields n
    )

-- A refused case: `#` joined to the index, the word REFUSED, the number.
unfoldable pub refused_line : ℕ → ℕ → List ℕ
refused_line index number = line ((letters "#" ++ decimal_of index) ∷ letters "REFUSED" ∷ decimal_of number ∷ [])

-- END gives cases ruled and refused.
unfoldable pub end_line : ℕ → ℕ → List ℕ
end_line ruled refused = line (letters "END" ∷ decimal_of ruled ∷ decimal_of refused ∷ [])

-- A sheet refused whole: the number.
unfoldable pub sheet_line : ℕ → List ℕ
sheet_line number = line (letters "SHEET REFUSED" ∷ decimal_of number ∷ [])
