-- Cutting: its two equations, and that it undoes putting cases one after the other.
use Prim.Native.Nat.{ℕ, zero, suc, ◌+◌, ◌*◌, ◌≤◌}
use mathlib.Core.Path.{◌≡◌, refl, sym, ap, ◌∙◌}
use mathlib.Core.Bool.{Bool, true, false}
use mathlib.Core.List.{List, [], ◌∷◌, ◌++◌, append_assoc, append-nil}
use native.Mathlib.Omega.{arith}
use lib.ListN.{length, take, drop, length-drop, take-append-drop}
use lib.Seq.{take-append_seam, drop-append_seam}
use lib.Dec.{eqb}
use borrow.Author.Tests.{eq-eqb, ne_eqb, eqb-true, eqb-false}
use Rattle.cut.specs.Cut.{case_length, uncut, before, cut_by, cut, together, AllCases}
use Rattle.cut.proofs.First.{first, length_le, case_low, case_first, first_is}

-- ---- the equations under a bound
by_end : (n : ℕ) (s : List ℕ) → case_length s ≡ 0 → cut_by n s ≡ uncut s
unfolding cut_by
by_end zero s h = refl
by_end (suc n) s h = simp (eq-eqb (case_length s) 0 h)

by_more : (n : ℕ) (s : List ℕ) → (case_length s ≡ 0 → ⊥) → cut_by (suc n) s ≡ before (take (case_length s) s) (cut_by n (drop (case_length s) s))
unfolding cut_by
by_more n s h = simp (ne_eqb (case_length s) 0 h)

-- either there is no first case, or there is one
pub end_or_more : (P : Type 0) (s : List ℕ) → (case_length s ≡ 0 → P) → ((case_length s ≡ 0 → ⊥) → P) → P
end_or_more P s p q = by_test (eqb (case_length s) 0) refl where
  by_test : (b : Bool) → eqb (case_length s) 0 ≡ b → P
  by_test true e = p (eqb-true (case_length s) 0 e)
  by_test false e = q (eqb-false (case_length s) 0 e)

-- what is left after a first case is shorter
pub shorter : (s : List ℕ) → (case_length s ≡ 0 → ⊥) → length (drop (case_length s) s) + 88 ≤ length s
shorter s h = let f = first s h in omega (arith, length-drop (case_length s) s, f.size, f.low, f.fits)

-- any bound that is not below the number of bytes does
enough : (n m : ℕ) (s : List ℕ) → length s ≤ n → length s ≤ m → cut_by n s ≡ cut_by m s
enough zero m s h k = let e : case_length s ≡ 0 = omega (arith, length_le s) in by_end zero s e ∙ sym (by_end m s e)
enough (suc n) zero s h k = let e : case_length s ≡ 0 = omega (arith, length_le s) in by_end (suc n) s e ∙ sym (by_end zero s e)
enough (suc n) (suc m) s h k =
    end_or_more (cut_by (suc n) s ≡ cut_by (suc m) s) s
    (λ e. by_end (suc n) s e ∙ sym (by_end (suc m) s e))
    (λ e. by_more n s e ∙ ap (before (take (case_length s) s)) (enough n m (drop (case_length s) s) (omega (arith, shorter s e)) (omega (arith, shorter s e))) ∙ sym (by_more m s e))

-- ---- the two equations of cutting
pub cut_end : (s : List ℕ) → case_length s ≡ 0 → cut s ≡ uncut s
unfolding cut
cut_end s h = by_end (length s) s h

pub cut_more : (s : List ℕ) → (case_length s ≡ 0 → ⊥) → cut s ≡ before (take (case_length s) s) (cut (drop (case_length s) s))
unfolding cut
cut_more s h =
    enough (length s) (suc (length s)) s (omega arith) (omega arith)
    ∙ by_more (length s) s h
    ∙ ap (before (take (case_length s) s)) (enough (length s) (length (drop (case_length s) s)) (drop (case_length s) s) (omega (arith, shorter s h)) (omega arith))

-- ---- what holds of every cut, from those two: by the number of bytes
pub by_cases : (P : List ℕ → Type 0) → ((s : List ℕ) → case_length s ≡ 0 → P s) → ((s : List ℕ) → (case_length s ≡ 0 → ⊥) → P (drop (case_length s) s) → P s)
    → (n : ℕ) (s : List ℕ) → length s ≤ n → P s
by_cases P end more zero s h = end s (omega (arith, length_le s))
by_cases P end more (suc n) s h = end_or_more (P s) s (end s) (λ e. more s e (by_cases P end more n (drop (case_length s) s) (omega (arith, shorter s e))))

-- the cases and what is left are the bytes
pub cut_joins : (s : List ℕ) → together (cut s).cases ++ (cut s).left ≡ s
cut_joins s =
    by_cases (λ s. together (cut s).cases ++ (cut s).left ≡ s)
    (λ s e. rw (cut_end s e))
    (λ s e h. rw (cut_more s e, append_assoc, h, take-append-drop))
    (length s) s (omega arith)

-- each is a case
pub cut_each : (s : List ℕ) → AllCases (cut s).cases
cut_each s =
    by_cases (λ s. AllCases (cut s).cases)
    (λ s e. rw (cut_end s e) tt)
    (λ s e h. rw (cut_more s e) (first_is s (first s e), h))
    (length s) s (omega arith)

-- cases one after the other, and then any bytes: those cases, and then the parts of the rest
pub cut_after : (cs : List (List ℕ)) (r : List ℕ) → AllCases cs → cut (together cs ++ r) ≡ record { cases = cs ++ (cut r).cases; left = (cut r).left }
cut_after [] r h = refl
cut_after (c ∷ cs) r h =
    let is = case_first c (together cs ++ r) h.0 in
    let low = case_low c [] h.0 in
    rw append_assoc
    (cut_more (c ++ (together cs ++ r)) (λ e. omega arith)
    ∙ rw (is, take-append_seam, drop-append_seam, cut_after cs r h.1))

-- cases put one after the other are cut back into themselves
pub cut_back : (cs : List (List ℕ)) → AllCases cs → cut (together cs) ≡ record { cases = cs; left = [] }
cut_back [] h = cut_end [] (let n = length_le [] in omega arith)
cut_back (c ∷ cs) h =
    let is = case_first c (together cs) h.0 in
    let low = case_low c (together cs) h.0 in
    cut_more (c ++ together cs) (λ e. omega arith)
    ∙ rw (is, take-append_seam, drop-append_seam, cut_back cs h.1)

-- no case begins what is left
none_left : (s : List ℕ) → case_length (cut s).left ≡ 0
none_left s =
    by_cases (λ s. case_length (cut s).left ≡ 0)
    (λ s e. rw (cut_end s e) e)
    (λ s e h. rw (cut_more s e) h)
    (length s) s (omega arith)

-- cases, and then what was left of other bytes: those cases, and the same left
pub cut_onto : (s : List ℕ) (cs : List (List ℕ)) → AllCases cs → cut (together cs ++ (cut s).left) ≡ record { cases = cs; left = (cut s).left }
cut_onto s cs h = cut_after cs (cut s).left h ∙ rw (cut_end (cut s).left (none_left s), append-nil)

-- 88 bytes at least for each case
pub cases_few : (s : List ℕ) → length (cut s).cases * 88 ≤ length s
cases_few s =
    by_cases (λ s. length (cut s).cases * 88 ≤ length s)
    (λ s e. rw (cut_end s e) (omega arith))
    (λ s e h. rw (cut_more s e) (omega (arith, shorter s e)))
    (length s) s (omega arith)
