-- Pieces that are laid over a lent buffer one after the other, and written from its start.
use Rattle.std.proofs.Common.{◌≡◌, ℕ, ◌+◌, List, ◌++◌, length, take, refl, ap, ◌∙◌, subst, add-one}
use Rattle.std.specs.Prelude.{Option}
use Rattle.std.specs.Io.KnownBytes.{Appends}
use Rattle.std.proofs.KnownBytes.{Appends-nil, Appends-trans}
use lib.Seq.{take-append_seam}
use Rattle.wire.specs.Laid.{laid, row}

-- of what is laid over a buffer, the first so many bytes are what was written
pub laid_taken : (n : ℕ) (w l m : List ℕ) → (n ≡ length w) × (m ≡ laid w l) → take n m ≡ w
unfolding laid
laid_taken n w l m e = rw (e.1, e.0, take-append_seam)

-- no piece is written at first
pub no_pieces : (f : ℕ → List ℕ) (a : Option (List ℕ)) → Appends a a (row f 0)
unfolding row
no_pieces f a = Appends-nil a

row_more : (f : ℕ → List ℕ) (k : ℕ) → row f k ++ f k ≡ row f (k + 1)
unfolding row
row_more f k = rw add-one refl

-- the pieces so far, and the one that was laid over the buffer
pub one_more : (f : ℕ → List ℕ) (k n : ℕ) (l m : List ℕ) (a b c : Option (List ℕ))
    → (n ≡ length (f k)) × (m ≡ laid (f k) l) → Appends a b (row f k) → Appends b c (take n m) → Appends a c (row f (k + 1))
one_more f k n l m a b c said before now =
    subst (Appends a c) (ap (λ w. row f k ++ w) (laid_taken n (f k) l m said) ∙ row_more f k) (Appends-trans a b c _ _ before now)
