-- The laws of `laid_at`, and of a run of appends.
use Prim.Native.Nat.{ℕ, ◌+◌, ◌-◌, ◌≤◌, ◌<◌}
use mathlib.Core.Path.{◌≡◌, refl, sym, ◌∙◌}
use mathlib.Core.List.{List, [], ◌∷◌, ◌++◌, append_assoc}
use native.Mathlib.Numerals.{add-one}
use native.Mathlib.Omega.{arith}
use lib.ListN.{length, set, take, length-set, length-append}
use lib.Seq.{drop-drop, drop_at, length-take-le, take-append_seam, drop-append_seam, take-set-le, set_split}
use borrow.Rule.Slice.PartMut.{mid_of, put_mid}
use Rattle.wire.specs.Laid.{laid}
use Rattle.wire.proofs.Laid.{laid_before, laid_part}
use Rattle.wire.proofs.Rows.{Ran}
use Rattle.text.specs.Text.{laid_at}

-- one byte more: w laid before a byte that is set just after it
laid_more : (w l : List ℕ) (k v : ℕ) → k ≡ length w → length w < length l → laid w (set l k v) ≡ laid (w ++ (v ∷ [])) l
unfolding laid
laid_more w l k v e h =
    let t = length-take-le (length w) l (omega arith) in
    rw (e, set_split l (length w) v, drop_at (take (length w) l) _ (length w) t, length-append, add-one, append_assoc)

-- a byte at a place, and before a byte that is set the text that ends there
pub set_first : (at v : ℕ) (l : List ℕ) → at < length l → set l at v ≡ laid_at at (v ∷ []) l
unfolding laid_at
set_first at v l h =
    let e = length-take-le at l (omega arith) in
    laid_before at (set l at v) (rw length-set (omega arith))
    ∙ rw (take-set-le at l at v (omega arith)) (laid_more (take at l) l at v (sym e) (omega (arith, e)))

pub set_before : (at k v : ℕ) (w l : List ℕ) → k ≡ at + length w → k < length l → laid_at at w (set l k v) ≡ laid_at at (w ++ (v ∷ [])) l
unfolding laid_at
set_before at k v w l e h =
    let t = length-take-le at l (omega arith) in
    let n = length-append (take at l) w in
    rw (take-set-le at l k v (omega arith), ← append_assoc) (laid_more (take at l ++ w) l k v (omega (arith, t, n)) (omega (arith, t, n)))

-- w written into the part from a place on, as the borrow checker lends that part and takes it back
pub part_laid : (at : ℕ) (w xs ys : List ℕ) → at ≤ length xs → ys ≡ laid w (mid_of at (length xs - at) xs) → put_mid at (length xs - at) xs ys ≡ laid_at at w xs
unfolding laid_at
part_laid at w xs ys h e = laid_part (take at xs) w xs xs ys at (laid_before at xs h) (sym (length-take-le at xs h)) e

-- a word copied over as many bytes of the part from a place on
pub copied_at : (at n : ℕ) (w xs ys : List ℕ) → at ≤ length xs → n ≡ length w → ys ≡ w → put_mid at n xs ys ≡ laid_at at w xs
unfolding laid laid_at
copied_at at n w xs ys h e f = rw (f, e, length-append, length-take-le at xs h, append_assoc, drop-drop)

-- at the start, and after what is laid already
pub laid_first : (w l : List ℕ) → laid_at 0 w l ≡ laid w l
unfolding laid_at
laid_first w l = refl

pub laid_next : (w v l m k : List ℕ) (at : ℕ) → k ≡ laid_at at v m → m ≡ laid w l → at ≡ length w → k ≡ laid (w ++ v) l
unfolding laid laid_at
laid_next w v l m k at e f g =
    e ∙ rw (f, g, take-append_seam, length-append, ← drop-drop (length v) (length w) (laid w l), drop-append_seam, drop-drop)

-- ---- a run of appends: the next place, and what the buffer holds
pub ran_first : (w l m : List ℕ) (k : ℕ) → k ≡ 0 + length w → m ≡ laid_at 0 w l → Ran w l k m
ran_first w l m k e f = (omega arith, f ∙ laid_first w l)

pub ran_next : (w v l m m' : List ℕ) (k k' : ℕ) → Ran w l k m → k' ≡ k + length v → m' ≡ laid_at k v m → Ran (w ++ v) l k' m'
ran_next w v l m m' k k' h e f = (omega (arith, length-append w v, h.0), laid_next w v l m m' k f h.1 h.0)

-- and a run from there on, told from that place
pub ran_after : (w v l m m' : List ℕ) (k k' : ℕ) → Ran w l k m → k ≤ length m → Ran (take k m ++ v) m k' m' → Ran (w ++ v) l k' m'
unfolding laid_at
ran_after w v l m m' k k' h fits r =
    ran_next w v l m m' k k' h (omega (arith, r.0, length-append (take k m) v, length-take-le k m fits)) r.1

-- the same from any place on: two appends are one append of both
pub placed_next : (at k k' : ℕ) (w v l m m' : List ℕ) → at ≤ length l → k ≡ at + length w → m ≡ laid_at at w l → k' ≡ k + length v → m' ≡ laid_at k v m
    → (k' ≡ at + length (w ++ v)) × (m' ≡ laid_at at (w ++ v) l)
unfolding laid_at
placed_next at k k' w v l m m' h e f e' f' =
    let n = length-append (take at l) w in
    let t = length-take-le at l h in
    let b = laid_next (take at l ++ w) v l m m' k f' f (omega arith) in
    (omega (arith, length-append w v), rw append_assoc at b)
