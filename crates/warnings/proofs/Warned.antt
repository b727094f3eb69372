-- What is told of a case, and which piece of a sheet is which.
use Prim.Native.Nat.{ℕ, ◌+◌, ◌-◌, ◌≤◌, ◌<◌}
use mathlib.Core.Path.{◌≡◌, refl, ap, ◌∙◌}
use mathlib.Core.Bool.{true, false}
use mathlib.Core.List.{List, [], ◌∷◌, ◌++◌, append_assoc}
use native.Mathlib.Omega.{arith}
use lib.ListN.{take, drop}
use borrow.Author.Tests.{lt-ltb, le-ltb}
use Rattle.wire.specs.Numbers.{number_at}
use Rattle.words.specs.Rows.{rows_text, index_text}
use Rattle.words.proofs.Runs.{rows_append}
use Rattle.careful.specs.Careful.{cautions_of, any_caution}
use Rattle.careful_lines.specs.Lines.{careful_rows}
use Rattle.cut.specs.Cut.{case_length}
use Rattle.cut.proofs.Walk.{at_lent}
use Rattle.sheet.specs.Sheet.{cases_in, start_of, whole_cases}
use Rattle.report.proofs.Pieces.{at_place}
use Rattle.warnings.specs.Words.{Cautions}
use Rattle.warnings.specs.Warned.{trade_row, warned_text, warned_case, warned_at, warned_piece}

-- ---- a case
pub warned_joined : (k trade : ℕ) (c : Cautions) → (index_text k ++ rows_text (trade_row trade ∷ [])) ++ rows_text (careful_rows c) ≡ warned_text k trade c
warned_joined k trade c = rw (append_assoc, ← rows_append (trade_row trade ∷ []) (careful_rows c)) refl

module _ (k : ℕ) (s : List ℕ) where
  pub warned_some : any_caution (cautions_of s) ≡ true → warned_case k s ≡ warned_text k (number_at 4 s 4) (cautions_of s)
  unfolding warned_case
  warned_some e = simp e

  pub warned_none : any_caution (cautions_of s) ≡ false → warned_case k s ≡ []
  unfolding warned_case
  warned_none e = simp e

-- ---- a sheet of n whole cases
pub at_case : (s : List ℕ) (n k from step : ℕ) → n ≡ cases_in s → k < n → from ≡ start_of s k → step ≡ case_length (drop from s)
    → warned_case k (take (from + step - from) (drop from s)) ≡ warned_at s n k
at_case s n k from step many l place long =
    ap (warned_case k) (at_lent s k from step (at_place s n k from many l place) (omega arith) long) ∙ simp (lt-ltb k n l)

pub at_none : (s : List ℕ) (n k : ℕ) → n ≤ k → [] ≡ warned_at s n k
at_none s n k l = simp (le-ltb k n l)

-- ---- by the test of the whole sheet
module _ (s : List ℕ) (k : ℕ) where
  pub whole_piece : whole_cases s ≡ true → warned_piece s k ≡ warned_at s (cases_in s) k
  unfolding warned_piece
  whole_piece h = simp h

  pub refused_piece_lem : whole_cases s ≡ false → warned_piece s k ≡ []
  unfolding warned_piece
  refused_piece_lem h = simp h
