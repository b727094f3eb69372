-- A row: what a loop appends to a lent buffer, turn by turn.
use Prim.Native.Nat.{ℕ, zero, suc, ◌+◌, ◌-◌, ◌*◌, ◌≤◌, ◌<◌, zero-le}
use mathlib.Core.Path.{◌≡◌, refl, sym, ap, ◌∙◌}
use mathlib.Core.List.{List, ◌++◌, append_assoc, append-nil}
use native.Mathlib.Nat.{add-zero, add-suc, suc-mul}
use native.Mathlib.Numerals.{add-one}
use native.Mathlib.Omega.{arith}
use lib.ListN.{length, take, length-append}
use lib.Seq.{length-take-le}
use borrow.Rule.Slice.PartMut.{mid_of, put_mid}
use Rattle.wire.specs.Laid.{laid, row}
use Rattle.wire.proofs.Laid.{laid_before, laid_part}

-- the next place, and what the buffer holds
abbrev pub Ran : List ℕ → List ℕ → ℕ → List ℕ → Type 0
Ran w l at m = (at ≡ length w) × (m ≡ laid w l)

-- nothing is written yet from a place on
pub ran_at : (at : ℕ) (l : List ℕ) → at ≤ length l → Ran (take at l) l at l
ran_at at l h = (sym (length-take-le at l h), laid_before at l h)

-- ---- a row behind what was written before it, w
module _ (w : List ℕ) (f : ℕ → List ℕ) where
  pub row_start : (l m : List ℕ) (at : ℕ) → Ran w l at m → Ran (w ++ row f 0) l at m
  unfolding row
  row_start l m at h = rw append-nil h

  -- a turn that writes f i into the part from its place on
  pub row_turn : (l xs ys : List ℕ) (i at r : ℕ) → Ran (w ++ row f i) l at xs → r ≡ length (f i) → ys ≡ laid (f i) (mid_of at (length xs - at) xs)
      → Ran (w ++ row f (i + 1)) l (at + r) (put_mid at (length xs - at) xs ys)
  unfolding row
  row_turn l xs ys i at r h e g =
      rw (add-one, ← append_assoc w (row f i) (f i)) (omega (arith, length-append (w ++ row f i) (f i), h.0), laid_part (w ++ row f i) (f i) l xs ys at h.1 h.0 g)

-- n entries of at most m bytes
pub row_most : (f : ℕ → List ℕ) (m : ℕ) → ((k : ℕ) → length (f k) ≤ m) → (n : ℕ) → length (row f n) ≤ n * m
unfolding row
row_most f m h zero = zero-le
row_most f m h (suc n) = rw suc-mul (omega (arith, length-append (row f n) (f n), h n, row_most f m h n))

-- a row goes by its entries
pub row_same : (f g : ℕ → List ℕ) (n : ℕ) → ((k : ℕ) → k < n → f k ≡ g k) → row f n ≡ row g n
unfolding row
row_same f g zero h = refl
row_same f g (suc n) h = ap (λ (w : List ℕ). w ++ f n) (row_same f g n (λ k l. h k (omega arith))) ∙ ap (λ (w : List ℕ). row g n ++ w) (h n (omega arith))

-- a row, cut before its entry j and after it
pub row_split : (f : ℕ → List ℕ) (j m : ℕ) → row f (suc j + m) ≡ row f j ++ (f j ++ row (λ k. f (suc j + k)) m)
unfolding row
row_split f j zero = rw (add-zero, append-nil)
row_split f j (suc m) = rw (add-suc) (ap (λ (w : List ℕ). w ++ f (suc j + m)) (row_split f j m) ∙ rw (append_assoc, append_assoc))
