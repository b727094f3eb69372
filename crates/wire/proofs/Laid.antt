-- The laws of `laid`.
use Prim.Native.Nat.{ℕ, ◌-◌, ◌≤◌}
use mathlib.Core.Path.{◌≡◌, refl, sym, ap, ◌∙◌}
use mathlib.Core.List.{List, [], ◌++◌, append_assoc, append-nil}
use native.Mathlib.Nat.{zero-add}
use native.Mathlib.Omega.{arith}
use lib.ListN.{length, take, drop, length-append, length-drop, take-append-drop}
use lib.Seq.{sets, sets-eq, length-take-le, take-length, take_all, drop-drop, drop-length, take-append_seam, drop-append_seam}
use borrow.Rule.Slice.PartMut.{mid_of, put_mid}
use Rattle.wire.specs.Laid.{laid}

-- a refusal leaves the buffer as it was
pub laid_none : (l : List ℕ) → l ≡ laid [] l
unfolding laid
laid_none l = refl

-- what lies before a place, laid where it lies already
pub laid_before : (at : ℕ) (l : List ℕ) → at ≤ length l → l ≡ laid (take at l) l
unfolding laid
laid_before at l h = rw (length-take-le at l h, take-append-drop)

-- all of an array copied over the start of the buffer
pub copied : (n : ℕ) (a w l : List ℕ) → n ≡ length a → a ≡ w → take n a ++ drop n l ≡ laid w l
unfolding laid
copied n a w l e f = rw (e, f, take-length)

-- ---- a part of the buffer from a place to its end, as the borrow checker lends it and takes it back
pub part_is : (at : ℕ) (xs : List ℕ) → mid_of at (length xs - at) xs ≡ drop at xs
part_is at xs = take_all (length xs - at) (drop at xs) (omega (arith, length-drop at xs))

part_back : (at : ℕ) (xs ys : List ℕ) → put_mid at (length xs - at) xs ys ≡ take at xs ++ ys
part_back at xs ys =
    ap (λ (z : List ℕ). take at xs ++ (ys ++ z)) (ap (λ (k : ℕ). drop k (drop at xs)) (sym (length-drop at xs)) ∙ drop-length (drop at xs))
    ∙ ap (λ (z : List ℕ). take at xs ++ z) (append-nil ys)

-- v written into the part after w is both written
pub laid_part : (w v l xs ys : List ℕ) (at : ℕ) → xs ≡ laid w l → at ≡ length w → ys ≡ laid v (mid_of at (length xs - at) xs)
    → put_mid at (length xs - at) xs ys ≡ laid (w ++ v) l
unfolding laid
laid_part w v l xs ys at ex ea ey =
    part_back at xs ys
    ∙ ap (λ (z : List ℕ). take at xs ++ z) (ey ∙ ap (laid v) (part_is at xs))
    ∙ rw (ex, ea, take-append_seam, drop-append_seam, drop-drop, length-append, append_assoc)

-- a run of stores from the start of the buffer on
pub stores : (m w l : List ℕ) → m ≡ sets l 0 w → length w ≤ length l → m ≡ laid w l
unfolding laid
stores m w l e h = e ∙ sets-eq w l 0 (omega arith) ∙ rw zero-add

-- an answer and what is left of the buffer, where the definition's pair is known
pub ends : {A : Type 0} {x : A} {m : List ℕ} (w l : List ℕ) (p : A × List ℕ) → p ≡ (x, w) → m ≡ laid w l → (x ≡ p.0) × (m ≡ laid p.1 l)
ends {A} w l p e h = (sym (ap (λ (q : A × List ℕ). q.0) e), h ∙ ap (λ (q : A × List ℕ). laid q.1 l) (sym e))
