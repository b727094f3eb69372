-- A run of rows: what has been written from a place on, and rows more.
use Prim.Native.Nat.{ℕ, ◌+◌, ◌≤◌}
use mathlib.Core.Path.{◌≡◌, refl, ap}
use mathlib.Core.List.{List, [], ◌∷◌, ◌++◌, append_assoc, append-nil}
use native.Mathlib.Omega.{arith}
use lib.ListN.{length}
use Rattle.text.specs.Text.{laid_at}
use Rattle.text.proofs.Placed.{placed_next}
use Rattle.words.specs.Pieces.{row_text}
use Rattle.words.specs.Words.{Piece}
use Rattle.words.specs.Rows.{rows_text}
use Rattle.words.proofs.Rows.{nothing_laid, written}

pub rows_append : (rs qs : List (List Piece)) → rows_text (rs ++ qs) ≡ rows_text rs ++ rows_text qs
unfolding rows_text
rows_append [] qs = refl
rows_append (r ∷ rs) qs = rw append_assoc (ap (λ (w : List ℕ). row_text r ++ w) (rows_append rs qs))

pub rows_none : rows_text [] ≡ []
unfolding rows_text
rows_none = refl

pub rows_one : (r : List Piece) → rows_text (r ∷ []) ≡ row_text r
unfolding rows_text
rows_one r = append-nil (row_text r)

pub rows_cons : (r : List Piece) (rs : List (List Piece)) → rows_text (r ∷ rs) ≡ row_text r ++ rows_text rs
unfolding rows_text
rows_cons r rs = refl

-- what a step that writes no row, or one, is proved by
pub ruleset few_rows = (rows_none, rows_one, nothing_laid)

-- and one that writes several
pub ruleset more_rows = (rows_none, rows_cons, rows_append, written)

-- these rows stand from the place on: the next place, and what the buffer holds
abbrev pub Stand : ℕ → List ℕ → List (List Piece) → ℕ → List ℕ → Type 0
Stand at l rs k m = (k ≡ at + length (rows_text rs)) × (m ≡ laid_at at (rows_text rs) l)

pub no_rows : (at : ℕ) (l : List ℕ) → at ≤ length l → Stand at l [] at l
unfolding rows_text
no_rows at l h = (omega arith, nothing_laid at l h)

-- what a call wrote, rows p or one row p, where p is q
pub row_alone : (at k most : ℕ) (p q : List Piece) (l m : List ℕ) → p ≡ q
    → (k ≡ at + length (row_text p)) × (m ≡ laid_at at (row_text p) l) × (k ≤ most) → Stand at l (q ∷ []) k m
row_alone at k most p q l m e w = rw (← e, rows_one p) (w.0, w.1)

pub rows_more : (at k k' most : ℕ) (rs p q : List (List Piece)) (l m m' : List ℕ) → at ≤ length l → Stand at l rs k m → p ≡ q
    → (k' ≡ k + length (rows_text p)) × (m' ≡ laid_at k (rows_text p) m) × (k' ≤ most) → Stand at l (rs ++ q) k' m'
rows_more at k k' most rs p q l m m' h s e w =
    rw (← e, rows_append rs p) (placed_next at k k' (rows_text rs) (rows_text p) l m m' h s.0 s.1 w.0 w.1)

pub row_more : (at k k' most : ℕ) (rs : List (List Piece)) (p q : List Piece) (l m m' : List ℕ) → at ≤ length l → Stand at l rs k m → p ≡ q
    → (k' ≡ k + length (row_text p)) × (m' ≡ laid_at k (row_text p) m) × (k' ≤ most) → Stand at l (rs ++ (q ∷ [])) k' m'
row_more at k k' most rs p q l m m' h s e w =
    rw (← e, rows_append rs (p ∷ []), rows_one p) (placed_next at k k' (rows_text rs) (row_text p) l m m' h s.0 s.1 w.0 w.1)
