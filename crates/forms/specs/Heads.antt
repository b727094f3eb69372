-- The head of a case: its length and its kind (RULE R2.2), and the pairs of them that there are.
use Rattle.std.specs.Prelude.{ℕ, ◌≡◌, Bool, true, false, ◌&&◌, ◌||◌, List, [], ◌∷◌, length, eqb}
use Rattle.wire.specs.Numbers.{number_at}

-- ---- 88 bytes are of kind 1, 92 of kind 2; a further kind is one pair more
unfoldable pub pairs : List (ℕ × ℕ)
pairs = (88, 1) ∷ (92, 2) ∷ []

abbrev pub listed_length : List (ℕ × ℕ) → ℕ → Bool
listed_length [] n = false
listed_length ((size, kind) ∷ ps) n = eqb n size || listed_length ps n

abbrev pub listed : List (ℕ × ℕ) → ℕ → ℕ → Bool
listed [] size kind = false
listed ((n, k) ∷ ps) size kind = (eqb size n && eqb kind k) || listed ps size kind

-- a length that some kind has
unfoldable pub is_length : ℕ → Bool
is_length n = listed_length pairs n

-- a length with the kind that has it
unfoldable pub known : ℕ → ℕ → Bool
known size kind = listed pairs size kind

-- ---- 0 length; 2 kind
abbrev pub size_in : List ℕ → ℕ
size_in s = number_at 2 s 0

abbrev pub kind_in : List ℕ → ℕ
kind_in s = number_at 2 s 2

-- bytes that are one case: a pair that there is at the head, and as many bytes as it says
pub record IsCase (c : List ℕ) : Type 0 where
  pub pair : known (size_in c) (kind_in c) ≡ true
  pub long : length c ≡ size_in c
