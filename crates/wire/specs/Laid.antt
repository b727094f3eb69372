-- What a call leaves of a lent buffer (RULE R3.0.7: every byte after those written is kept).
use Rattle.std.specs.Prelude.{ℕ, zero, suc, List, [], ◌++◌, length, drop}

-- w written over the start of l, and every byte after w kept. A refusal writes no byte: laid [] l is l.
unfoldable pub laid : List ℕ → List ℕ → List ℕ
laid w l = w ++ drop (length w) l

-- f 0, f 1 and so on, n of them, one after the other
unfoldable pub row : (ℕ → List ℕ) → ℕ → List ℕ
row f zero = []
row f (suc k) = row f k ++ f k
