-- No line changes nothing.
use Prim.Native.Nat.{ℕ, ◌+◌, ◌≤◌}
use mathlib.Core.Path.{◌≡◌, refl}
use mathlib.Core.List.{List, [], append-nil}
use native.Mathlib.Omega.{arith}
use lib.ListN.{length, take-append-drop}
use lib.Seq.{length-take-le}
use Rattle.wire.specs.Laid.{laid}
use Rattle.text.specs.Text.{laid_at}

-- nothing written from a place on
pub no_line : (at m : ℕ) (w l : List ℕ) → w ≡ [] → at ≤ length l → (at ≡ at + length w) × (l ≡ laid_at at w l) × (at ≤ at + m)
unfolding laid_at laid
no_line at m w l e h = rw (e, append-nil, length-take-le at l h, take-append-drop) (omega arith, refl, omega arith)
