-- A row, piece by piece; and nothing written.
use Prim.Native.Nat.{ℕ, ◌+◌, ◌≤◌, ◌<◌}
use mathlib.Core.Path.{◌≡◌, refl, ap}
use mathlib.Core.List.{List, [], ◌∷◌, ◌++◌, append_assoc, append-nil}
use native.Mathlib.Numerals.{add-one}
use native.Mathlib.Omega.{arith}
use lib.ListN.{length, get_or, take, take-append-drop, length-append}
use lib.Seq.{length-take-le, take-suc}
use Rattle.wire.specs.Laid.{laid}
use Rattle.text.specs.Text.{laid_at}
use Rattle.text.proofs.Placed.{placed_next}
use Rattle.words.specs.Words.{Piece}
use Rattle.words.specs.Pieces.{piece_text, row_text}

pub nothing_laid : (at : ℕ) (l : List ℕ) → at ≤ length l → l ≡ laid_at at [] l
unfolding laid_at laid
nothing_laid at l h = rw (append-nil, length-take-le at l h, take-append-drop)

pub laid_twice : (at : ℕ) (w v l : List ℕ) → at ≤ length l → laid_at (at + length w) v (laid_at at w l) ≡ laid_at at (w ++ v) l
laid_twice at w v l h = (placed_next at _ _ w v l _ _ h refl refl refl refl).1

-- what a run of appends is proved by
pub ruleset written = (nothing_laid, laid_twice, append_assoc, append-nil, length-append)

row_append : (ps qs : List Piece) → row_text (ps ++ qs) ≡ row_text ps ++ row_text qs
unfolding row_text
row_append [] qs = refl
row_append (p ∷ ps) qs = rw append_assoc (ap (λ (w : List ℕ). piece_text p ++ w) (row_append ps qs))

row_one : (p : Piece) → row_text (p ∷ []) ≡ piece_text p
unfolding row_text
row_one p = append-nil (piece_text p)

row_next : (ps : List Piece) (i : ℕ) (d : Piece) → i < length ps → row_text (take (i + 1) ps) ≡ row_text (take i ps) ++ piece_text (get_or ps i d)
row_next ps i d h = rw (add-one, take-suc ps i d h, row_append, row_one)

-- where the first i pieces and the next one stand, the first i + 1 stand
pub row_more : (at k : ℕ) (ps : List Piece) (i : ℕ) (d : Piece) (l m : List ℕ) → i < length ps
    → (k ≡ at + length (row_text (take i ps) ++ piece_text (get_or ps i d))) × (m ≡ laid_at at (row_text (take i ps) ++ piece_text (get_or ps i d)) l)
    → (k ≡ at + length (row_text (take (i + 1) ps))) × (m ≡ laid_at at (row_text (take (i + 1) ps)) l)
row_more at k ps i d l m h e = rw (row_next ps i d h) e
