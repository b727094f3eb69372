-- A sheet and the same cases in another order (RULE R12.4).
use Rattle.std.specs.Prelude.{ℕ, ◌<◌, ◌≡◌, List}
use Rattle.wire.specs.Laid.{row}
use Rattle.cases.specs.Cases.{reading_of}
use Rattle.sheet.specs.Sheet.{case_at, cases_in, entry_bytes, whole_cases}

-- The test 10 takes both alike, there are as many cases in both, and case k of t is case σ k of s: σ stays below the number of cases, and no two
-- places of t share a case. So t has every case of s once.
pub record Reordered (σ : ℕ → ℕ) (s t : List ℕ) : Type 0 where
  pub alike : whole_cases t ≡ whole_cases s
  pub many : cases_in t ≡ cases_in s
  pub within : (k : ℕ) → k < cases_in s → σ k < cases_in s
  pub apart : (k l : ℕ) → k < cases_in s → l < cases_in s → σ k ≡ σ l → k ≡ l
  pub same : (k : ℕ) → k < cases_in s → case_at t k ≡ case_at s (σ k)

-- the judgements of s in that order, each with its new index
abbrev pub in_order : (ℕ → ℕ) → List ℕ → List ℕ
in_order σ s = row (λ k. entry_bytes k (reading_of (case_at s (σ k)))) (cases_in s)
