-- Two sheets that differ in one case, and what is written for them. Demand 3 on sheets (RULE R12.5, R12.6, R13.0.3): they differ in one party's member
-- code and limit.
use Rattle.std.specs.Prelude.{ℕ, suc, ◌+◌, ◌-◌, ◌≤◌, ◌<◌, ◌≡◌, List, ◌++◌, ◌⊎◌, length, get_or}
use Rattle.wire.specs.Laid.{row}
use Rattle.facts.specs.declared.Side.{Side}
use Rattle.record.specs.Record.{facts_of}
use Rattle.cases.specs.Cases.{reading_of}
use Rattle.answer.specs.Answer.{answer_of}
use Rattle.alike.specs.Cases.{party_place, UntoldBytes, Blind}
use Rattle.sheet.specs.Sheet.{start_of, case_at, cases_in, entry_of}

-- ---- in one case, whatever it is
-- as many cases in both, all but case j the same
pub record ButOne (s t : List ℕ) (j : ℕ) : Type 0 where
  pub within : j < cases_in s
  pub many : cases_in t ≡ cases_in s
  pub others : (k : ℕ) → (k ≡ j → ⊥) → case_at t k ≡ case_at s k

-- what is written for the cases before case j, and for those after it
abbrev pub earlier : List ℕ → ℕ → List ℕ
earlier s j = row (entry_of s) j

abbrev pub later : List ℕ → ℕ → List ℕ
later s j = row (λ k. entry_of s (suc j + k)) (cases_in s - suc j)

-- a is written for the sheet s and b for the sheet t: the same bytes before and after the entry of case j
pub record OnlyEntry (s t : List ℕ) (j : ℕ) (a b : List ℕ) : Type 0 where
  pub first : a ≡ earlier s j ++ (entry_of s j ++ later s j)
  pub second : b ≡ earlier s j ++ (entry_of t j ++ later s j)

-- ---- in one party of it
-- a place of the sheet before that party's eight bytes in case j, or after them
abbrev pub OutsideIn : Side → List ℕ → ℕ → ℕ → Type 0
OutsideIn who s j i = (i < start_of s j + party_place who) ⊎ (start_of s j + party_place who + 8 ≤ i)

-- two sheets of one length with the same byte at every place but those, case j accepted in both, and the price that the party's limit is
-- tested against, if it is, within both limits or outside both
pub record AlikeButOne (who : Side) (s t : List ℕ) (j : ℕ) : Type 0 where
  pub long : length s ≡ length t
  pub within : j < cases_in s
  pub same : (i : ℕ) → OutsideIn who s j i → get_or s i 0 ≡ get_or t i 0
  pub first : (reading_of (case_at s j)).refusal ≡ 0
  pub second : (reading_of (case_at t j)).refusal ≡ 0
  pub untold : UntoldBytes who (case_at s j) (case_at t j)

-- a is written for the sheet s and b for the sheet t: the same bytes before and after the 96 of case j, and of these only what `Blind` says differs
pub record OnlyCase (who : Side) (s t : List ℕ) (j : ℕ) (a b : List ℕ) : Type 0 where
  pub first : a ≡ earlier s j ++ (answer_of (facts_of (case_at s j)) ++ later s j)
  pub second : b ≡ earlier s j ++ (answer_of (facts_of (case_at t j)) ++ later s j)
  pub blind : Blind who (case_at s j) (case_at t j) (answer_of (facts_of (case_at s j))) (answer_of (facts_of (case_at t j)))
