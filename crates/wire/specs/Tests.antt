-- The words of tests (RULE R3.0.1).
use Rattle.std.specs.Prelude.{ℕ, Bool, true, false, ◌&&◌, List, [], ◌∷◌, leb}

-- the first where the test holds, else the second
abbrev pub pick : {A : Type 0} → Bool → A → A → A
pick true a b = a
pick false a b = b

-- lo to hi, ends included
unfoldable pub in_range : ℕ → ℕ → ℕ → Bool
in_range lo hi n = leb lo n && leb n hi

-- Numbered tests in their order: the number of the first that fails, or 0 where all pass.
abbrev pub first_failed : List (ℕ × Bool) → ℕ
first_failed [] = 0
first_failed ((n, ok) ∷ tests) = pick ok (first_failed tests) n
