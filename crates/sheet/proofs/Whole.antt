-- A sheet's whole answer: that of its cases in order, each as by itself.
use Prim.Native.Nat.{ℕ}
use mathlib.Core.Path.{◌≡◌, refl, sym, ap, ◌∙◌}
use mathlib.Core.Bool.{Bool, true, false}
use mathlib.Core.List.{List}
use lib.ListN.{length}
use lib.Dec.{eqb}
use Rattle.wire.specs.Laid.{row}
use Rattle.wire.specs.Tests.{pick}
use Rattle.sheet.specs.Words.{SheetAnswer}
use Rattle.sheet.specs.Sheet.{cases_in, entry_of, ruled_in, whole_cases, sheet_refusal_of, refused_whole, ruled_whole, sheet_of}
use Rattle.sheet.proofs.Counts.{written_counts}
use Rattle.sheet.proofs.Turns.{answered}

pub each_by_itself : (s : List ℕ) (room : ℕ) → (sheet_of s room).0.refusal ≡ 0 → (sheet_of s room).1 ≡ row (entry_of s) (cases_in s)
each_by_itself s room e = ap (λ (p : SheetAnswer × List ℕ). p.1) (answered s room e)

-- two sheets that the tests take alike, with as many cases ruled, have the same answer
module _ (s t : List ℕ) (n : ℕ) (ruled : ruled_in s n ≡ ruled_in t n) where
  written : length (row (entry_of s) n) ≡ length (row (entry_of t) n)
  written = written_counts s n ∙ rw ruled refl ∙ sym (written_counts t n)

  picked : (b : Bool) (m : ℕ) → (pick b (ruled_whole t n) (refused_whole m)).0 ≡ (pick b (ruled_whole s n) (refused_whole m)).0
  picked true m = rw (ruled, written) refl
  picked false m = refl

pub same_answer : (s t : List ℕ) (room : ℕ) → whole_cases t ≡ whole_cases s → cases_in t ≡ cases_in s → ruled_in s (cases_in s) ≡ ruled_in t (cases_in s)
    → (sheet_of t room).0 ≡ (sheet_of s room).0
unfolding sheet_of sheet_refusal_of
same_answer s t room whole many ruled = rw (whole, many) (picked s t (cases_in s) ruled (eqb (sheet_refusal_of s room) 0) (sheet_refusal_of s room))
