-- A sheet cut into its cases (RULE R1.3, R3.10). Each case says at its head how many bytes it has and of what kind it is.
use Rattle.std.specs.Prelude.{ℕ, zero, suc, ◌+◌, ◌≤◌, ◌<◌, ◌≡◌, Bool, true, ◌&&◌, List, [], ◌∷◌, ◌++◌, length, take, drop, get_or, leb, eqb}
use Rattle.wire.specs.Tests.{pick}
use Rattle.forms.specs.Heads.{known, size_in, kind_in}
pub use Rattle.forms.specs.Heads.{IsCase}

-- ---- the first case: s has four bytes, a known pair at its head, and as many bytes as that says
unfoldable pub begins : List ℕ → Bool
begins s = leb 4 (length s) && (known (size_in s) (kind_in s) && leb (size_in s) (length s))

-- how long the first case is: 0 where there is none
unfoldable pub case_length : List ℕ → ℕ
case_length s = pick (begins s) (size_in s) 0

-- ---- cut as far as there are cases, and what is left
pub record Parts : Type 0 where
  pub cases : List (List ℕ)
  pub left : List ℕ

abbrev pub uncut : List ℕ → Parts
uncut s = record { cases = []; left = s }

abbrev pub before : List ℕ → Parts → Parts
before c p = record { cases = c ∷ p.cases; left = p.left }

-- the first case, then the parts of the rest; the first argument only bounds the number of cases
unfoldable pub cut_by : ℕ → List ℕ → Parts
cut_by zero s = uncut s
cut_by (suc n) s = pick (eqb (case_length s) 0) (uncut s) (before (take (case_length s) s) (cut_by n (drop (case_length s) s)))

-- no case is empty: there are at most as many as bytes
unfoldable pub cut : List ℕ → Parts
cut s = cut_by (length s) s

abbrev pub cases_in : List ℕ → ℕ
cases_in s = length (cut s).cases

-- case k, from 0
unfoldable pub case_at : List ℕ → ℕ → List ℕ
case_at s k = get_or (cut s).cases k []

-- whole where nothing is left
unfoldable pub whole : List ℕ → Bool
whole s = eqb (length (cut s).left) 0

-- ---- cases put one after the other
abbrev pub together : List (List ℕ) → List ℕ
together [] = []
together (c ∷ cs) = c ++ together cs

abbrev pub AllCases : List (List ℕ) → Type 0
AllCases [] = Unit {0}
AllCases (c ∷ cs) = IsCase c × AllCases cs

-- where case k begins: behind those before it
unfoldable pub start_of : List ℕ → ℕ → ℕ
start_of s k = length (together (take k (cut s).cases))

-- as many bytes in both, and the same at every place but those of case j after its head
pub record SameButIn (s t : List ℕ) (j : ℕ) : Type 0 where
  pub long : length t ≡ length s
  pub front : (i : ℕ) → i < start_of s j + 4 → get_or t i 0 ≡ get_or s i 0
  pub back : (i : ℕ) → start_of s j + length (case_at s j) ≤ i → get_or t i 0 ≡ get_or s i 0
