-- Numbers as bytes, lowest byte first (RULE R2.1). One definition each way serves every width.
use Rattle.std.specs.Prelude.{ℕ, zero, suc, ◌+◌, ◌*◌, ◌/◌, ◌%◌, ◌<◌, List, [], ◌∷◌, get_or, set}

-- each element is a byte: what a `&[u8]` holds by its type, and a definition's list need not
abbrev pub AreBytes : List ℕ → Type 0
AreBytes s = (i : ℕ) → get_or s i 0 < 256

-- the number that these bytes stand for
abbrev pub joined : List ℕ → ℕ
joined [] = 0
joined (b ∷ bs) = b + 256 * joined bs

-- the w bytes of a number
abbrev pub bytes : ℕ → ℕ → List ℕ
bytes zero n = []
bytes (suc w) n = n % 256 ∷ bytes w (n / 256)

-- the w elements of a list from place i on, of which the first k are passed
abbrev pub elements_from : ℕ → List ℕ → ℕ → ℕ → List ℕ
elements_from zero s i k = []
elements_from (suc w) s i k = get_or s (i + k) 0 ∷ elements_from w s i (suc k)

abbrev pub elements : ℕ → List ℕ → ℕ → List ℕ
elements w s i = elements_from w s i 0

-- the number in the w bytes from place i on
unfoldable pub number_at : ℕ → List ℕ → ℕ → ℕ
number_at w s i = joined (elements w s i)

-- the list with these bytes from place i on, of which the first k are stored
abbrev pub stored_from : List ℕ → ℕ → ℕ → List ℕ → List ℕ
stored_from o i k [] = o
stored_from o i k (b ∷ bs) = stored_from (set o (i + k) b) i (suc k) bs

abbrev pub stored : List ℕ → ℕ → List ℕ → List ℕ
stored o i bs = stored_from o i 0 bs
