-- What is told of a field is so: it is one of the record's fields, its number is out of its bounds and stands at the place told, and every field of
-- the same test that stands before it in the record is in order.
use Prim.Native.Nat.{ℕ, ◌+◌, ◌*◌, ◌<◌}
use mathlib.Core.Path.{◌≡◌, refl, sym, ap, subst, ◌∙◌}
use mathlib.Core.Bool.{Bool, true, false, not, ◌&&◌}
use mathlib.Core.List.{List, [], ◌∷◌, ◌++◌}
use mathlib.Core.Logic.{◌⊎◌, inl, inr}
use native.Mathlib.Omega.{arith}
use lib.Dec.{ltb, eqb}
use borrow.Author.Tests.{ltb-true, eqb-false}
use Rattle.wire.specs.Numbers.{number_at}
use Rattle.wire.specs.Tests.{pick}
use Rattle.wire.proofs.Tests.{fails, both_true}
use Rattle.forms.specs.Forms.{form_of}
use Rattle.cases.specs.Cases.{refusal_of}
use Rattle.blame.specs.Words.{Form, One, Two, Field, None, Some}
use Rattle.blame.specs.Fields.{field_ok, keep, first_bad, case_length, head_length, head_kind, head_fields, zero_field, coded_field, coded_fields, letter_field, code_fields, money_field, differential_fields, price_fields, count_field, count_fields, clock_field, lapse_field, time_fields, limit_field, limit_fields, terms_field, agreement_fields, fields_of, blame_of, number_of}
use Rattle.blame.proofs.Numbers.{blamed_number}

-- ---- one of these fields
abbrev pub In : Field → List Field → Type 0
In g [] = ⊥
In g (f ∷ fs) = (g ≡ f) ⊎ In g fs

abbrev All : (Field → Type 0) → List Field → Type 0
All P [] = Unit {0}
All P (f ∷ fs) = P f × All P fs

all_after : (P : Field → Type 0) (fs gs : List Field) → All P fs → All P gs → All P (fs ++ gs)
all_after P [] gs p q = q
all_after P (f ∷ fs) gs p q = (p.0, all_after P fs gs p.1 q)

-- ---- the first that is told is one of them, and not in order
first_bad_lem : (fs : List Field) (f : Field) → first_bad fs ≡ Some f → In f fs × (field_ok f ≡ false)
unfolding keep
first_bad_lem [] f e = let z : ◌≡◌ {A = ℕ} 0 1 = cc in absurd (let n : ⊥ = omega arith in n)
first_bad_lem (g ∷ gs) f e = by_test (field_ok g) refl (first_bad_lem gs f) e where
  by_test : (t : Bool) → field_ok g ≡ t → (first_bad gs ≡ Some f → In f gs × (field_ok f ≡ false)) → pick t (first_bad gs) (Some g) ≡ Some f
      → ((f ≡ g) ⊎ In f gs) × (field_ok f ≡ false)
  by_test true h later k = let l = later k in (inr l.0, l.1)
  by_test false h later k = let same : f ≡ g = cc in (inl same, ap field_ok same ∙ h)

-- ---- the order: by the tests, and within a test by the places
abbrev place : Field → ℕ
place f = 256 * f.test + f.at

abbrev in_order : List Field → Bool
in_order [] = true
in_order (f ∷ []) = true
in_order (f ∷ g ∷ gs) = ltb (place f) (place g) && in_order (g ∷ gs)

order_tail : (f : Field) (fs : List Field) → in_order (f ∷ fs) ≡ true → in_order fs ≡ true
order_tail f [] o = refl
order_tail f (g ∷ gs) o = (both_true (ltb (place f) (place g)) (in_order (g ∷ gs)) o).1

-- what follows a field stands behind it
behind : (f : Field) (fs : List Field) → in_order (f ∷ fs) ≡ true → (g : Field) → In g fs → place f < place g
behind f [] o g m = absurd m
behind f (h ∷ hs) o g m = after (both_true (ltb (place f) (place h)) (in_order (h ∷ hs)) o) (behind h hs) m where
  after : (ltb (place f) (place h) ≡ true) × (in_order (h ∷ hs) ≡ true)
      → (in_order (h ∷ hs) ≡ true → (k : Field) → In k hs → place h < place k)
      → (g ≡ h) ⊎ In g hs → place f < place g
  after p later (inl e) = let n = ltb-true (place f) (place h) p.0 in let q = ap place e in omega arith
  after p later (inr k) = let n = ltb-true (place f) (place h) p.0 in let q = later p.1 g k in omega arith

before_passes : (fs : List Field) (f g : Field) → in_order fs ≡ true → first_bad fs ≡ Some f → In g fs → place g < place f → field_ok g ≡ true
unfolding keep
before_passes [] f g o e m l = absurd m
before_passes (h ∷ hs) f g o e m l =
    by_test (field_ok h) refl (λ k i. before_passes hs f g (order_tail h hs o) k i l) e m where
      stands_behind : f ≡ h → (g ≡ h) ⊎ In g hs → ⊥
      stands_behind s (inl i) = let p = ap place i in let q = ap place s in omega arith
      stands_behind s (inr i) = let p = behind h hs o g i in let q = ap place s in omega arith

      by_test : (t : Bool) → field_ok h ≡ t → (first_bad hs ≡ Some f → In g hs → field_ok g ≡ true) → pick t (first_bad hs) (Some h) ≡ Some f
          → (g ≡ h) ⊎ In g hs → field_ok g ≡ true
      by_test true b later k (inl i) = ap field_ok i ∙ b
      by_test true b later k (inr i) = later k i
      by_test false b later k i = let s : f ≡ h = cc in absurd (stands_behind s i)

-- ---- the number told is the one that stands at the place told; the length of the case, with no width, has no place
abbrev pub Stands : List ℕ → Field → Type 0
Stands s f = (f.width ≡ 0 → ⊥) → f.number ≡ number_at f.width s f.at

all_in : (P : Field → Type 0) (fs : List Field) → All P fs → (g : Field) → In g fs → P g
all_in P [] p g m = absurd m
all_in P (f ∷ fs) p g (inl e) = subst P (sym e) p.0
all_in P (f ∷ fs) p g (inr m) = all_in P fs p.1 g m

differential_stands : (form : Form) (s : List ℕ) → All (Stands s) (differential_fields form s)
unfolding money_field
differential_stands One s = tt
differential_stands (Two d) s = (λ w. refl, tt)

abbrev all_numbered : List Field → Bool
all_numbered [] = true
all_numbered (f ∷ fs) = not (eqb f.test 0) && all_numbered fs

none_told : (fs : List Field) → all_numbered fs ≡ true → number_of (first_bad fs) ≡ 0 → first_bad fs ≡ None
unfolding keep
none_told [] n e = refl
none_told (f ∷ fs) n e = by_test (field_ok f) (both_true (not (eqb f.test 0)) (all_numbered fs) n) (none_told fs) e where
  by_test : (t : Bool) → (not (eqb f.test 0) ≡ true) × (all_numbered fs ≡ true) → (all_numbered fs ≡ true → number_of (first_bad fs) ≡ 0 → first_bad fs ≡ None)
      → number_of (pick t (first_bad fs) (Some f)) ≡ 0 → pick t (first_bad fs) (Some f) ≡ None
  by_test true h later k = later h.1 k
  by_test false h later k = absurd (eqb-false f.test 0 (fails (eqb f.test 0) h.0) k)

-- ---- of a case
module _ (s : List ℕ) where
  in_order_lem : in_order (fields_of s) ≡ true
  unfolding case_length head_length head_kind zero_field coded_field letter_field money_field count_field clock_field lapse_field limit_field terms_field
  in_order_lem = by_form (form_of s) refl where
    by_form : (form : Form) → form_of s ≡ form → in_order (fields_of s) ≡ true
    by_form One e = simp e
    by_form (Two d) e = simp e

  head_stands : All (Stands s) ((case_length s ∷ []) ++ head_fields s)
  unfolding case_length head_length head_kind
  head_stands = (λ w. absurd (w refl), (λ w. refl, (λ w. refl, tt)))

  coded_stands : All (Stands s) (coded_fields s)
  unfolding zero_field coded_field
  coded_stands = (λ w. refl, (λ w. refl, (λ w. refl, (λ w. refl, (λ w. refl, (λ w. refl, (λ w. refl, (λ w. refl, (λ w. refl, (λ w. refl, tt))))))))))

  codes_stand : All (Stands s) (code_fields s)
  unfolding letter_field
  codes_stand = (λ w. refl, (λ w. refl, (λ w. refl, (λ w. refl, (λ w. refl, (λ w. refl, (λ w. refl, (λ w. refl, tt))))))))

  prices_stand : All (Stands s) (price_fields s)
  unfolding money_field
  prices_stand = (λ w. refl, (λ w. refl, (λ w. refl, (λ w. refl, (λ w. refl, (λ w. refl, (λ w. refl, differential_stands (form_of s) s)))))))

  facts_stand : All (Stands s) (count_fields s ++ (time_fields s ++ (limit_fields s ++ agreement_fields s)))
  unfolding count_field clock_field lapse_field limit_field terms_field
  facts_stand = (λ w. refl, (λ w. refl, (λ w. refl, (λ w. refl, (λ w. refl, (λ w. refl, (λ w. refl, (λ w. refl, (λ w. refl, (λ w. refl, (λ w. refl, tt)))))))))))

  all_stand_lem : All (Stands s) (fields_of s)
  all_stand_lem =
      let from-six : List Field = count_fields s ++ (time_fields s ++ (limit_fields s ++ agreement_fields s)) in
      let from-five : List Field = price_fields s ++ from-six in
      let from-four : List Field = code_fields s ++ from-five in
      all_after (Stands s) ((case_length s ∷ []) ++ head_fields s) (coded_fields s ++ from-four) head_stands
      (all_after (Stands s) (coded_fields s) from-four coded_stands
      (all_after (Stands s) (code_fields s) from-five codes_stand
      (all_after (Stands s) (price_fields s) from-six prices_stand facts_stand)))

  -- every number of the record's fields stands at its place
  pub stands : (f : Field) → In f (fields_of s) → Stands s f
  stands f m = all_in (Stands s) (fields_of s) all_stand_lem f m

  -- no field has a test of the number 0, so where the case is accepted none is told
  numbered : all_numbered (fields_of s) ≡ true
  unfolding case_length head_length head_kind zero_field coded_field letter_field money_field count_field clock_field lapse_field limit_field terms_field
  numbered = by_form (form_of s) refl where
    by_form : (form : Form) → form_of s ≡ form → all_numbered (fields_of s) ≡ true
    by_form One e = simp e
    by_form (Two d) e = simp e

  pub accepted_sound : refusal_of s ≡ 0 → blame_of s ≡ None
  unfolding blame_of
  accepted_sound e = none_told (fields_of s) numbered (blamed_number s ∙ e)

  module _ (f : Field) (told : blame_of s ≡ Some f) where
    -- the field told is one of the record's, and out of its bounds
    pub told_bad : In f (fields_of s) × (field_ok f ≡ false)
    unfolding blame_of
    told_bad = first_bad_lem (fields_of s) f told

    -- its number stands where it is told to stand
    pub told_stands : Stands s f
    told_stands = stands f told_bad.0

    -- every field of the same test that stands before it in the record is in order
    pub first_in_order : (g : Field) → In g (fields_of s) → g.test ≡ f.test → g.at < f.at → field_ok g ≡ true
    unfolding blame_of
    first_in_order g m t l = before_passes (fields_of s) f g in_order_lem told m (omega arith)
