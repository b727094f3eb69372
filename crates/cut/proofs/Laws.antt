-- Whole sheets: what they are, one case put in another's place, cases that are all as long, and cases by their places.
use Prim.Native.Nat.{ℕ, zero, suc, ◌+◌, ◌*◌, ◌<◌}
use mathlib.Core.Path.{◌≡◌, refl, sym, ap, ◌∙◌}
use mathlib.Core.Bool.{Bool, true, false}
use mathlib.Core.List.{List, [], ◌∷◌, ◌++◌, append-nil, append_assoc}
use native.Mathlib.Nat.{zero-mul, suc-mul, add_comm}
use native.Mathlib.Omega.{arith}
use lib.ListN.{length, take, drop, get_or, set, length-append, length-set, get_or-append}
use lib.Seq.{get_or-set_same, get_or-set_other, take_at, drop-append-add, get_or-append-add}
use lib.Dec.{ltb}
use borrow.Author.Tests.{eqb-true, ltb-true, ltb-false}
use Rattle.wire.specs.Laid.{row}
use Rattle.cut.specs.Cut.{IsCase, Parts, cut, cases_in, case_at, whole, together, AllCases}
use Rattle.cut.proofs.Cut.{cut_joins, cut_each, cut_after, cut_back}

pub together_append : (cs ds : List (List ℕ)) → together (cs ++ ds) ≡ together cs ++ together ds
together_append [] ds = refl
together_append (c ∷ cs) ds = rw (together_append cs ds, append_assoc)

no_bytes : (l : List ℕ) → length l ≡ 0 → l ≡ []
no_bytes [] h = refl
no_bytes (x ∷ l) h = absurd (omega arith)

-- a whole sheet is its cases one after the other
pub whole_joins : (s : List ℕ) → whole s ≡ true → together (cut s).cases ≡ s
unfolding whole
whole_joins s h =
    let e = no_bytes (cut s).left (eqb-true (length (cut s).left) 0 h) in
    sym (append-nil (together (cut s).cases)) ∙ ap (λ (l : List ℕ). together (cut s).cases ++ l) (sym e) ∙ cut_joins s

-- cases one after the other are a whole sheet, of these cases
module _ (cs : List (List ℕ)) (each : AllCases cs) where
  pub back_whole : whole (together cs) ≡ true
  unfolding whole
  back_whole = rw (cut_back cs each)

  pub back_cases : (cut (together cs)).cases ≡ cs
  back_cases = ap (λ (p : Parts). p.cases) (cut_back cs each)

-- a whole sheet and another one after it are the cases of both
pub two_sheets : (s t : List ℕ) → whole s ≡ true → cut (s ++ t) ≡ record { cases = (cut s).cases ++ (cut t).cases; left = (cut t).left }
two_sheets s t h = ap (λ (x : List ℕ). cut (x ++ t)) (sym (whole_joins s h)) ∙ cut_after (cut s).cases t (cut_each s)

-- ---- another case in the place of case j
pub set_each : (cs : List (List ℕ)) (j : ℕ) (d : List ℕ) → AllCases cs → IsCase d → AllCases (set cs j d)
set_each [] j d h is = tt
set_each (c ∷ cs) zero d h is = (is, h.1)
set_each (c ∷ cs) (suc j) d h is = (h.0, set_each cs j d h.1 is)

module _ (s : List ℕ) (j : ℕ) (d : List ℕ) (is : IsCase d) where
  each : AllCases (set (cut s).cases j d)
  each = set_each (cut s).cases j d (cut_each s) is

  pub changed_whole : whole (together (set (cut s).cases j d)) ≡ true
  changed_whole = back_whole (set (cut s).cases j d) each

  pub changed_many : cases_in (together (set (cut s).cases j d)) ≡ cases_in s
  changed_many = ap length (back_cases (set (cut s).cases j d) each) ∙ length-set (cut s).cases j d

  pub changed_there : j < cases_in s → case_at (together (set (cut s).cases j d)) j ≡ d
  unfolding case_at
  changed_there l = rw (back_cases (set (cut s).cases j d) each) (get_or-set_same (cut s).cases j d [] l)

  pub changed_else : (k : ℕ) → (k ≡ j → ⊥) → case_at (together (set (cut s).cases j d)) k ≡ case_at s k
  unfolding case_at
  changed_else k h = rw (back_cases (set (cut s).cases j d) each) (get_or-set_other (cut s).cases j k d [] h)

-- each case that was cut is a case
each_at : (cs : List (List ℕ)) → AllCases cs → (k : ℕ) → k < length cs → IsCase (get_or cs k [])
each_at [] h k l = absurd (omega arith)
each_at (c ∷ cs) h zero l = h.0
each_at (c ∷ cs) h (suc k) l = each_at cs h.1 k (omega arith)

pub case_is : (s : List ℕ) (k : ℕ) → k < cases_in s → IsCase (case_at s k)
unfolding case_at
case_is s k l = each_at (cut s).cases (cut_each s) k l

-- ---- sheets whose cases are all as long: case k stands at k times that, as where there is one kind only
abbrev pub AllLong : ℕ → List (List ℕ) → Type 0
AllLong n [] = Unit {0}
AllLong n (c ∷ cs) = (length c ≡ n) × AllLong n cs

even_place : (n : ℕ) (cs : List (List ℕ)) → AllLong n cs → (k : ℕ) → k < length cs → take n (drop (k * n) (together cs)) ≡ get_or cs k []
even_place n [] h k l = absurd (omega arith)
even_place n (c ∷ cs) h zero l = rw zero-mul (take_at c (together cs) n h.0)
even_place n (c ∷ cs) h (suc k) l =
    let e : suc k * n ≡ length c + k * n = suc-mul k n ∙ add_comm (k * n) n ∙ ap (λ (m : ℕ). m + k * n) (sym h.0) in
    ap (λ (m : ℕ). take n (drop m (c ++ together cs))) e ∙ ap (take n) (drop-append-add c (together cs) (k * n)) ∙ even_place n cs h.1 k (omega arith)

pub even_case : (n : ℕ) (cs : List (List ℕ)) → AllCases cs → AllLong n cs → (k : ℕ) → k < length cs → case_at (together cs) k ≡ take n (drop (k * n) (together cs))
unfolding case_at
even_case n cs each h k l = ap (λ (ds : List (List ℕ)). get_or ds k []) (back_cases cs each) ∙ sym (even_place n cs h k l)

-- ---- cases by their places: f 0, f 1 and so on, n of them, one after the other
listed : (ℕ → List ℕ) → ℕ → List (List ℕ)
listed f zero = []
listed f (suc n) = listed f n ++ (f n ∷ [])

each_append : (cs ds : List (List ℕ)) → AllCases cs → AllCases ds → AllCases (cs ++ ds)
each_append [] ds h g = g
each_append (c ∷ cs) ds h g = (h.0, each_append cs ds h.1 g)

module _ (f : ℕ → List ℕ) where
  listed_each : (n : ℕ) → ((k : ℕ) → k < n → IsCase (f k)) → AllCases (listed f n)
  unfolding listed
  listed_each zero is = tt
  listed_each (suc n) is = each_append (listed f n) (f n ∷ []) (listed_each n (λ k l. is k (omega arith))) (is n (omega arith), tt)

  listed_long : (n : ℕ) → length (listed f n) ≡ n
  unfolding listed
  listed_long zero = refl
  listed_long (suc n) = simp length-append (omega (arith, listed_long n))

  listed_row : (n : ℕ) → together (listed f n) ≡ row f n
  unfolding listed row
  listed_row zero = refl
  listed_row (suc n) = together_append (listed f n) (f n ∷ []) ∙ rw (listed_row n, append-nil)

  listed_at : (n k : ℕ) → k < n → get_or (listed f n) k [] ≡ f k
  unfolding listed
  listed_at zero k l = absurd (omega arith)
  listed_at (suc n) k l = by_test (listed_at n k) (ltb k n) refl where
    by_test : (k < n → get_or (listed f n) k [] ≡ f k) → (b : Bool) → ltb k n ≡ b → get_or (listed f n ++ (f n ∷ [])) k [] ≡ f k
    by_test before true e =
        let m = ltb-true k n e in
        get_or-append (listed f n) (f n ∷ []) [] k (omega (arith, listed_long n)) ∙ before m
    by_test before false e =
        let m : k ≡ n = omega (arith, ltb-false k n e) in
        let z : k ≡ length (listed f n) + 0 = omega (arith, listed_long n) in
        ap (λ (i : ℕ). get_or (listed f n ++ (f n ∷ [])) i []) z ∙ get_or-append-add (listed f n) (f n ∷ []) 0 [] ∙ ap f (sym m)

  -- where each is a case, they are a whole sheet of these cases
  module _ (n : ℕ) (is : (k : ℕ) → k < n → IsCase (f k)) where
    row_cut : cut (row f n) ≡ record { cases = listed f n; left = [] }
    row_cut = ap cut (sym (listed_row n)) ∙ cut_back (listed f n) (listed_each n is)

    pub row_whole : whole (row f n) ≡ true
    unfolding whole
    row_whole = rw row_cut

    pub row_many : cases_in (row f n) ≡ n
    row_many = ap (λ (p : Parts). length p.cases) row_cut ∙ listed_long n

    pub row_case : (k : ℕ) → k < n → case_at (row f n) k ≡ f k
    unfolding case_at
    row_case k l = ap (λ (p : Parts). get_or p.cases k []) row_cut ∙ listed_at n k l
