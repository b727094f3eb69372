-- What a length, a kind and a head are worth, told once for every pair that there is.
use Prim.Native.Nat.{ℕ, ◌≤◌}
use mathlib.Core.Path.{◌≡◌, refl, sym, ap, ◌∙◌}
use mathlib.Core.Bool.{Bool, true, false, ◌||◌, or-false}
use mathlib.Core.List.{List}
use mathlib.Core.Logic.{◌⊎◌, inl, inr, ⊎_elim}
use native.Mathlib.Omega.{arith}
use lib.ListN.{length}
use lib.Dec.{eqb}
use borrow.Author.Tests.{eqb-true}
use Rattle.wire.specs.Numbers.{number_at}
use Rattle.wire.proofs.Tests.{both_true}
use Rattle.facts.specs.Numbers.{mills}
use Rattle.forms.specs.Words.{Form, One, Two}
use Rattle.forms.specs.Heads.{pairs, is_length, known, size_in, kind_in}
use Rattle.forms.specs.Forms.{form_length, form_kind, form_of}

either_true : (a b : Bool) → (a || b) ≡ true → (a ≡ true) ⊎ (b ≡ true)
either_true true b h = inl refl
either_true false b h = inr h

-- a length is one of those that there are
pub lengths : (n : ℕ) → is_length n ≡ true → (n ≡ 88) ⊎ (n ≡ 92)
unfolding is_length pairs
lengths n h =
    ⊎_elim (λ e. inl (eqb-true n 88 e)) (λ e. inr (eqb-true n 92 (sym (or-false (eqb n 92)) ∙ e))) (either_true (eqb n 88) (eqb n 92 || false) h)

-- and has the 88 bytes of every kind
pub has_88 : (n : ℕ) → is_length n ≡ true → 88 ≤ n
has_88 n h = ⊎_elim (λ e. omega arith) (λ e. omega arith) (lengths n h)

-- ---- each form has a length with its kind that there is
pub form_known : (f : Form) → known (form_length f) (form_kind f) ≡ true
unfolding known pairs
form_known One = refl
form_known (Two d) = refl

pub form_length_lem : (f : Form) → is_length (form_length f) ≡ true
unfolding is_length pairs
form_length_lem One = refl
form_length_lem (Two d) = refl

pub form_88 : (f : Form) → 88 ≤ form_length f
form_88 f = has_88 (form_length f) (form_length_lem f)

-- ---- the form of a case, by its length
pub form_one : (s : List ℕ) → length s ≡ 88 → form_of s ≡ One
unfolding form_of
form_one s e = simp e

pub form_two : (s : List ℕ) → length s ≡ 92 → form_of s ≡ Two (mills (number_at 4 s 88))
unfolding form_of
form_two s e = simp e

-- A case is as long as its form.
pub long_as : (s : List ℕ) → is_length (length s) ≡ true → length s ≡ form_length (form_of s)
long_as s h =
    ⊎_elim (λ e. e ∙ sym (ap form_length (form_one s e))) (λ e. e ∙ sym (ap form_length (form_two s e))) (lengths (length s) h)

-- The kind that stands beside a form's length is the form's.
kind_beside : (f : Form) (kind : ℕ) → known (form_length f) kind ≡ true → kind ≡ form_kind f
unfolding known pairs
kind_beside One kind h = eqb-true kind 1 (sym (or-false (eqb kind 1)) ∙ h)
kind_beside (Two d) kind h = eqb-true kind 2 (sym (or-false (eqb kind 2)) ∙ h)

known_length : (size kind : ℕ) → known size kind ≡ true → is_length size ≡ true
unfolding known is_length pairs
known_length size kind h = ⊎_elim (λ e. simp (both_true (eqb size 88) (eqb kind 1) e).0) (λ e. second (both_true _ (eqb kind 2) (sym (or-false _) ∙ e)).0) (either_true _ _ h) where
  second : eqb size 92 ≡ true → (eqb size 88 || (eqb size 92 || false)) ≡ true
  second e = simp (eqb-true size 92 e)

pub known_size : (size kind : ℕ) → known size kind ≡ true → 88 ≤ size
known_size size kind h = has_88 size (known_length size kind h)

module _ (s : List ℕ) (pair : known (size_in s) (kind_in s) ≡ true) (long : length s ≡ size_in s) where
  -- A case has one of the lengths, and its head says length and kind of its form.
  pub case_length_lem : is_length (length s) ≡ true
  case_length_lem = ap is_length long ∙ known_length (size_in s) (kind_in s) pair

  pub head_length_lem : size_in s ≡ form_length (form_of s)
  head_length_lem = sym long ∙ long_as s case_length_lem

  pub head_kind_lem : kind_in s ≡ form_kind (form_of s)
  head_kind_lem = kind_beside (form_of s) (kind_in s) (ap (λ (n : ℕ). known n (kind_in s)) (sym head_length_lem) ∙ pair)
