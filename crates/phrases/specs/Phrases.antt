-- The words of a refusal, for people: what each number stands for (RULE R3), and the line that says it.
use Rattle.std.specs.Prelude.{ℕ, List, [], ◌∷◌, ◌++◌, eqb}
use Rattle.wire.specs.Tests.{pick}
use Rattle.text.specs.Text.{letters, decimal_of}

-- what stands beside n in a table: nothing where n is not in it
abbrev pub beside : ℕ → List (ℕ × List ℕ) → List ℕ
beside n [] = []
beside n ((k, words) ∷ rows) = pick (eqb n k) words (beside n rows)

-- what the test that failed found; a number that nobody gives has no words
unfoldable pub refusal_words : ℕ → List ℕ
refusal_words n =
    beside n (
    (1, letters "the case is neither 88 nor 92 bytes long")
    ∷ (2, letters "its head is not that of a case of its length")
    ∷ (3, letters "a zero byte or a coded byte is wrong")
    ∷ (4, letters "a member code is not of A to Z and 0 to 9")
    ∷ (5, letters "a price or the differential is out of range, or wrongly none")
    ∷ (6, letters "contracts or a size are out of range")
    ∷ (7, letters "a time is out of range, or the filing precedes the execution")
    ∷ (8, letters "the execution is past a limit")
    ∷ (9, letters "the agreement's fields do not fit each other")
    ∷ (10, letters "no row of whole cases, or more than 52,800 bytes")
    ∷ (20, letters "no whole number of quotes, or more than 2,000")
    ∷ (21, letters "a quote has a bad field")
    ∷ (22, letters "the times of the quotes go back")
    ∷ (23, letters "the trade time is above 23:59:59")
    ∷ []
    )

-- the line: the number, for whoever looks it up, and the words; 10 is the line feed
unfoldable pub refusal_text : ℕ → List ℕ
refusal_text n = letters "REFUSED " ++ decimal_of n ++ letters ": " ++ refusal_words n ++ (10 ∷ [])
