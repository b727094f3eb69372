-- A row of fields asked one by one, and row after row.
use mathlib.Core.Path.{◌≡◌, refl, sym, subst, ◌∙◌}
use mathlib.Core.Bool.{Bool, true, false, not, cond}
use mathlib.Core.List.{List, [], ◌∷◌, ◌++◌}
use Rattle.std.specs.List.{find}
use Rattle.std.specs.Option.{MatchOption}
use Rattle.wire.specs.Tests.{pick}
use Rattle.blame.specs.Words.{Field, Blame, None, Some}
use Rattle.blame.specs.Fields.{field_ok, keep, or_later, first_bad}
use Rattle.blame.proofs.Row.{row_after}

-- the first that is not in order is the first bad one
pub found : (fs : List Field) → find (λ f. not (field_ok f)) fs ≡ first_bad fs
unfolding keep
found [] = refl
found (f ∷ fs) = by_test (field_ok f) (found fs) where
  by_test : (t : Bool) → find (λ f. not (field_ok f)) fs ≡ first_bad fs
      → cond (not t) (Some f) (find (λ f. not (field_ok f)) fs) ≡ pick t (first_bad fs) (Some f)
  by_test true e = e
  by_test false e = refl

-- two rows: where the first tells none, the second tells
row_then : {P : Type 0} (fs : List Field) (o r later : Blame)
    → o ≡ first_bad fs → MatchOption o P (λ f. r ≡ Some f) → (P → r ≡ later) → r ≡ or_later fs later
unfolding keep
row_then {P} [] o r later e m k = k (subst (λ (x : Blame). MatchOption x P (λ g. r ≡ Some g)) e m)
row_then {P} (f ∷ fs) o r later e m k = by_test (field_ok f) (λ q. row_then fs o r later q m k) e where
  by_test : (t : Bool) → (o ≡ first_bad fs → r ≡ or_later fs later) → o ≡ pick t (first_bad fs) (Some f) → r ≡ pick t (or_later fs later) (Some f)
  by_test true rest q = rest q
  by_test false rest q = subst (λ (x : Blame). MatchOption x P (λ g. r ≡ Some g)) q m

pub then_row : {P : Type 0} (fs gs : List Field) (o r : Blame)
    → o ≡ first_bad fs → MatchOption o P (λ f. r ≡ Some f) → (P → r ≡ first_bad gs) → r ≡ first_bad (fs ++ gs)
then_row fs gs o r e m k = row_then fs o r (first_bad gs) e m k ∙ sym (row_after fs gs None)

-- the eight rows behind the length
pub eight_rows : (a b c d e f g h : List Field)
    → first_bad (((((((a ++ b) ++ c) ++ d) ++ e) ++ f) ++ g) ++ h)
    ≡ or_later a (or_later b (or_later c (or_later d (or_later e (or_later f (or_later g (or_later h None)))))))
eight_rows a b c d e f g h = simp row_after
