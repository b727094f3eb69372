-- A row of fields: two rows after each other, and the number of the test that a row tells.
use Prim.Native.Nat.{ℕ, ◌≤◌}
use mathlib.Core.Path.{◌≡◌, refl, sym, ap, ◌∙◌}
use mathlib.Core.Bool.{Bool, true, false, not, ◌&&◌}
use mathlib.Core.List.{List, [], ◌∷◌, ◌++◌}
use lib.ListN.{length}
use Rattle.wire.specs.Tests.{pick}
use Rattle.wire.proofs.Tests.{fails, holds}
use Rattle.forms.proofs.Heads.{has_88}
use Rattle.blame.specs.Words.{Field, Blame, Some}
use Rattle.blame.specs.Fields.{field_ok, keep, or_later, case_length, inside_blame, blame_of, number_of}
use Rattle.blame.proofs.Tests.{all_ok, length_asked}

-- the second row is what the first has for later
pub row_after : (fs gs : List Field) (later : Blame) → or_later (fs ++ gs) later ≡ or_later fs (or_later gs later)
row_after [] gs later = refl
row_after (f ∷ fs) gs later = ap (keep f) (row_after fs gs later)

-- ---- all fields, test by test
module _ (s : List ℕ) where
  pub test_by_test : blame_of s ≡ keep (case_length s) (inside_blame s)
  unfolding blame_of inside_blame
  test_by_test = ap (keep (case_length s)) (simp row_after)

  -- another length is told before anything else
  pub length_stops : (f : Field) (ok : Bool) → f ≡ case_length s → ok ≡ field_ok f → not ok ≡ true → Some f ≡ blame_of s
  unfolding keep
  length_stops f ok e o h = sym (test_by_test ∙ simp (sym (o ∙ ap field_ok e) ∙ fails ok h) (ap Some (sym e)))

  module _ (f : Field) (ok : Bool) (e : f ≡ case_length s) (o : ok ≡ field_ok f) (h : not ok ≡ false) where
    length_passes : field_ok (case_length s) ≡ true
    length_passes = sym (o ∙ ap field_ok e) ∙ holds ok h

    -- where the length is right the bytes are there, and they tell
    pub long_enough : 88 ≤ length s
    long_enough = has_88 (length s) (sym (length_asked s) ∙ length_passes)

    pub bytes_tell : (b : Blame) → b ≡ inside_blame s → b ≡ blame_of s
    unfolding keep
    bytes_tell b i = i ∙ sym (test_by_test ∙ simp length_passes)

-- ---- the number that is told
abbrev pub OfTest : ℕ → List Field → Type 0
OfTest n [] = Unit {0}
OfTest n (f ∷ fs) = (f.test ≡ n) × OfTest n fs

-- where the fields of a test all pass, the later ones tell; else the test's number is told
pub row_number : (n : ℕ) (fs : List Field) (later : Blame) → OfTest n fs → number_of (or_later fs later) ≡ pick (all_ok fs) (number_of later) n
unfolding keep
row_number n [] later h = refl
row_number n (f ∷ fs) later h = by_test (field_ok f) (row_number n fs later h.1) where
  by_test : (t : Bool) → number_of (or_later fs later) ≡ pick (all_ok fs) (number_of later) n
      → number_of (pick t (or_later fs later) (Some f)) ≡ pick (t && all_ok fs) (number_of later) n
  by_test true e = e
  by_test false e = h.0

pub row_tells : (n : ℕ) (fs : List Field) (later : Blame) (ok : Bool) (m : ℕ) → OfTest n fs → all_ok fs ≡ ok → (ok ≡ true → number_of later ≡ m)
    → number_of (or_later fs later) ≡ pick ok m n
row_tells n fs later true m h e l = row_number n fs later h ∙ ap (λ (t : Bool). pick t (number_of later) n) e ∙ l refl
row_tells n fs later false m h e l = row_number n fs later h ∙ ap (λ (t : Bool). pick t (number_of later) n) e
