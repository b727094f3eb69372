-- Which rows a case has, and which piece of a sheet is which.
use Prim.Native.Nat.{ℕ, suc, ◌+◌, ◌-◌, ◌≤◌, ◌<◌}
use mathlib.Core.Path.{◌≡◌, refl, ap, ◌∙◌}
use mathlib.Core.Bool.{true, false}
use mathlib.Core.List.{List, []}
use native.Mathlib.Omega.{arith}
use lib.ListN.{length, take, drop}
use lib.Seq.{take-append_seam}
use borrow.Author.Tests.{eq-eqb, ne_eqb, lt-ltb, le-ltb}
use Rattle.wire.specs.Laid.{laid}
use Rattle.record.specs.Record.{facts_of}
use Rattle.cases.specs.Cases.{refusal_of}
use Rattle.ruling.specs.Ruling.{ruling_of}
use Rattle.figures.specs.Figures.{figures_of}
use Rattle.steps.specs.Steps.{steps_of}
use Rattle.step_lines.specs.Explained.{ruled_rows}
use Rattle.blame.specs.Fields.{blame_of}
use Rattle.blame_lines.specs.Lines.{blame_rows}
use Rattle.cut.specs.Cut.{case_length}
use Rattle.cut.proofs.Walk.{at_lent}
use Rattle.sheet.specs.Sheet.{cases_in, start_of, whole_cases}
use Rattle.report.specs.Pieces.{piece_of, pieces_in}
use Rattle.report.proofs.Pieces.{at_place}
use Rattle.words.proofs.Runs.{Stand}
use Rattle.explanation.specs.Words.{Piece, Wanted}
use Rattle.explanation.specs.Explained.{told_rows}
use Rattle.explanation.specs.Pieces.{desk_alone, wanted, indexed, case_piece, explain_piece, explained_piece}

-- the same rows under another name
pub as_rows : (at k : ℕ) (p q : List (List Piece)) (l m : List ℕ) → p ≡ q → Stand at l p k m → Stand at l q k m
as_rows at k p q l m e s = rw (← e) s

-- what was laid first
pub laid_told : (w l m : List ℕ) (k : ℕ) → k ≡ length w → m ≡ laid w l → take k m ≡ w
unfolding laid
laid_told w l m k e f = rw (e, f) (take-append_seam w _)

-- ---- a case
module _ (s : List ℕ) where
  pub told_ruled : refusal_of s ≡ 0 → ruled_rows (steps_of (facts_of s)) (figures_of (ruling_of (facts_of s))) ≡ told_rows s
  unfolding told_rows
  told_ruled e = simp (eq-eqb _ _ e)

  pub told_refused : (refusal_of s ≡ 0 → ⊥) → blame_rows s (blame_of s) ≡ told_rows s
  unfolding told_rows
  told_refused e = simp (ne_eqb _ _ e)

-- ---- a case that is asked for, and one that is not
module _ (want : Wanted) (k : ℕ) (c : List ℕ) where
  pub asked : wanted want c ≡ true → case_piece want k c ≡ indexed k c
  unfolding case_piece
  asked e = simp e

  pub not_asked : wanted want c ≡ false → case_piece want k c ≡ []
  unfolding case_piece
  not_asked e = simp e

-- ---- a sheet of n whole cases
pub at_head : (s : List ℕ) (n k : ℕ) (want : Wanted) → k ≡ 0 → desk_alone ≡ explain_piece s n want k
at_head s n k want e = rw e refl

pub at_case : (s : List ℕ) (n k i from step : ℕ) (want : Wanted) → k ≡ suc i → n ≡ cases_in s → i < n → from ≡ start_of s i → step ≡ case_length (drop from s)
    → case_piece want i (take (from + step - from) (drop from s)) ≡ explain_piece s n want k
at_case s n k i from step want e many l place long =
    ap (case_piece want i) (at_lent s i from step (at_place s n i from many l place) (omega arith) long) ∙ rw e (simp (lt-ltb i n l))

pub at_rest : (s : List ℕ) (n k i : ℕ) (want : Wanted) → k ≡ suc i → n ≤ i → piece_of s k ≡ explain_piece s n want k
at_rest s n k i want e l = rw e (simp (le-ltb i n l))

-- ---- by the test of the whole sheet
module _ (s : List ℕ) (want : Wanted) (k : ℕ) where
  pub whole_piece : whole_cases s ≡ true → explained_piece s want k ≡ explain_piece s (cases_in s) want k
  unfolding explained_piece
  whole_piece h = simp h

  pub refused_piece_lem : whole_cases s ≡ false → explained_piece s want k ≡ piece_of s k
  unfolding explained_piece
  refused_piece_lem h = simp h

pub pieces_whole : (s : List ℕ) → whole_cases s ≡ true → pieces_in s ≡ cases_in s + 2
unfolding pieces_in
pieces_whole s h = simp h

pub pieces_refused : (s : List ℕ) → whole_cases s ≡ false → pieces_in s ≡ 1
unfolding pieces_in
pieces_refused s h = simp h
