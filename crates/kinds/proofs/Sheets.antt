-- A sheet whose cases all have 88 bytes is answered as before: its cases stand where they stood, and each is answered as it was.
use Prim.Native.Nat.{ℕ, zero, suc, ◌+◌, ◌*◌, ◌/◌, ◌%◌, ◌≤◌, ◌<◌}
use mathlib.Core.Path.{◌≡◌, refl, sym, ap, ◌∙◌}
use mathlib.Core.Bool.{true}
use mathlib.Core.List.{List}
use native.Mathlib.Nat.{suc-mul, add-sub_cancel_left}
use native.Mathlib.Omega.{arith}
use lib.Arith.{digits_div, digits_mod}
use lib.ListN.{length, drop}
use lib.Dec.{eqb}
use borrow.Author.Tests.{eq-eqb}
use Rattle.wire.specs.Laid.{row}
use Rattle.wire.specs.Tests.{pick}
use Rattle.wire.proofs.Rows.{row_same}
use Rattle.cases.specs.Cases.{reading_of}
use Rattle.cases.proofs.Laws.{read_number}
use Rattle.cut.specs.Cut.{case_length, cases_in, case_at, whole, start_of}
use Rattle.cut.proofs.Walk.{start_first, start_next, start_end, at_of, at_lent, at_long}
use Rattle.sheet.specs.Sheet.{ruled_one, ruled_in, entry_of, whole_cases, sheet_refusal_of, sheet_of}
use Rattle.kinds.specs.Before.{number_before, entry_before, case_at_before, cases_before, row_before, ruled_in_before, sheet_before}
use Rattle.kinds.proofs.Before.{number_same, entry_before_lem}

module _ (s : List ℕ) (is : whole s ≡ true) (long : (k : ℕ) → k < cases_in s → length (case_at s k) ≡ 88) where
  -- ---- where the cases stand
  even_start : (k : ℕ) → k ≤ cases_in s → start_of s k ≡ k * 88
  even_start zero l = start_first s
  even_start (suc k) l = rw suc-mul (omega (arith, start_next s k (omega arith), even_start k (omega arith), long k (omega arith)))

  even_length : length s ≡ cases_in s * 88 + 0
  even_length = omega (arith, start_end s is, even_start (cases_in s) (omega arith))

  cases_same : cases_before s ≡ cases_in s
  cases_same = ap (λ (n : ℕ). n / 88) even_length ∙ digits_div (cases_in s) (omega arith)

  whole_same : eqb (length s % 88) 0 ≡ true
  whole_same = eq-eqb _ 0 (ap (λ (n : ℕ). n % 88) even_length ∙ digits_mod (cases_in s) (omega arith))

  case_same : (k : ℕ) → k < cases_in s → case_at_before s k ≡ case_at s k
  case_same k l =
      let from = start_of s k in
      let step = case_length (drop from s) in
      let a = at_of s k (omega arith) in
      let e : step ≡ 88 = sym (at_long s k from step a l refl) ∙ long k l in
      rw (← even_start k (omega arith), ← e) (rw (add-sub_cancel_left from step) at (at_lent s k from step a l refl))

  -- ---- what each adds, and the tests of the sheet
  row_before_lem : row (entry_of s) (cases_in s) ≡ row_before s (cases_in s)
  row_before_lem = row_same (entry_of s) _ (cases_in s) (λ k l. entry_before_lem (case_at s k) (long k l) k ∙ ap (entry_before k) (sym (case_same k l)))

  one_before : (k : ℕ) → k < cases_in s → ruled_one (reading_of (case_at s k)) ≡ pick (eqb (number_before (case_at_before s k)) 0) 1 0
  unfolding ruled_one
  one_before k l = rw (case_same k l, read_number (case_at s k), number_same (case_at s k) (long k l))

  ruled_before_lem : (n : ℕ) → n ≤ cases_in s → ruled_in s n ≡ ruled_in_before s n
  unfolding ruled_in ruled_in_before
  ruled_before_lem zero l = refl
  ruled_before_lem (suc n) l = rw (ruled_before_lem n (omega arith), one_before n (omega arith))

  pub sheet_before_lem : (room : ℕ) → sheet_of s room ≡ sheet_before s room
  unfolding sheet_of sheet_before sheet_refusal_of whole_cases
  sheet_before_lem room = rw (cases_same, whole_same, is, row_before_lem, ruled_before_lem (cases_in s) (omega arith))
