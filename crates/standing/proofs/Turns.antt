-- A row that is appended turn by turn from a place on.
use Prim.Native.Nat.{ℕ, ◌+◌, ◌*◌, ◌≤◌, ◌<◌}
use mathlib.Core.Path.{◌≡◌, refl, ◌∙◌}
use mathlib.Core.List.{List, []}
use native.Mathlib.Numerals.{add-one}
use native.Mathlib.Omega.{arith}
use lib.ListN.{length}
use Rattle.wire.specs.Laid.{row}
use Rattle.text.specs.Text.{laid_at}
use Rattle.text.proofs.Placed.{placed_next}
use Rattle.best_lines.proofs.NoLine.{no_line}

-- after i of the sixteen: where the next one goes, and what the buffer holds
pub record Turn (f : ℕ → List ℕ) (at : ℕ) (l m : List ℕ) (i next : ℕ) : Type 0 where
  pub few : i ≤ 16
  pub ran : (next ≡ at + length (row f i)) × (m ≡ laid_at at (row f i) l)
  pub most : next ≤ at + i * 49
  pub long : length m ≡ length l

module _ (f : ℕ → List ℕ) (at : ℕ) (l : List ℕ) (h : at ≤ length l) where
  pub first : Turn f at l l 0 at
  unfolding row
  first = let n = no_line at 0 [] l refl h in record { few = omega arith; ran = (n.0, n.1); most = omega arith; long = refl }

  pub next_turn : (m m' : List ℕ) (i next next' : ℕ) → Turn f at l m i next → i < 16
      → (next' ≡ next + length (f i)) × (m' ≡ laid_at next (f i) m) × (next' ≤ next + 49) → length m' ≡ length m
      → Turn f at l m' (i + 1) next'
  unfolding row
  next_turn m m' i next next' t k e g =
      record {
        few = omega arith;
        ran = rw add-one (placed_next at next next' (row f i) (f i) l m m' h t.ran.0 t.ran.1 e.0 e.1);
        most = omega (arith, t.most, e.2);
        long = g ∙ t.long;
      }
