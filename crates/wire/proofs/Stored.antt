-- Stretches stored one after the other, as a writer's calls give them.
use Prim.Native.Nat.{ℕ, suc, ◌+◌, ◌≤◌}
use mathlib.Core.Path.{◌≡◌, refl, sym, ap, ◌∙◌}
use mathlib.Core.List.{List, [], ◌∷◌, append_assoc}
use native.Mathlib.Omega.{arith}
use lib.ListN.{length, set}
use lib.Seq.{sets, sets-eq, drop-drop}
use borrow.Rule.Slice.PartMut.{put_mid}
use Rattle.wire.specs.Numbers.{bytes, stored_from, stored}

stored_sets : (bs o : List ℕ) (i k : ℕ) → stored_from o i k bs ≡ sets o (i + k) bs
stored_sets [] o i k = refl
stored_sets (b ∷ bs) o i k = stored_sets bs (set o (i + k) b) i (suc k) ∙ ap (λ (n : ℕ). sets (set o (i + k) b) n bs) (omega arith)

-- bytes copied over the part of the buffer that begins at a place
pub copied_at : (at n : ℕ) (w o ys : List ℕ) → at + n ≤ length o → n ≡ length w → ys ≡ w → put_mid at n o ys ≡ stored o at w
copied_at at n w o ys h e f =
    sym (stored_sets w o at 0 ∙ ap (λ (i : ℕ). sets o i w) (omega arith) ∙ sets-eq w o at (omega (arith, e)) ∙ rw (f, e, drop-drop, append_assoc))

-- a stretch stored over a buffer that is known already
pub next : (at : ℕ) (bs : List ℕ) {o o₁ o₂ : List ℕ} → o₂ ≡ stored o₁ at bs → o₁ ≡ o → o₂ ≡ stored o at bs
next at bs e before = e ∙ ap (λ (l : List ℕ). stored l at bs) before

-- a number that a call gave, or four bytes
pub number_given : (at : ℕ) (o : List ℕ) {o₁ : List ℕ} {n m : ℕ} → o₁ ≡ stored o at (bytes 4 n) → n ≡ m → o₁ ≡ stored o at (bytes 4 m)
number_given at o e given = e ∙ ap (λ (n : ℕ). stored o at (bytes 4 n)) given

pub four_given : (at : ℕ) (o : List ℕ) {o₁ : List ℕ} {a b c d a' b' c' d' : ℕ}
    → o₁ ≡ stored o at (a ∷ b ∷ c ∷ d ∷ [])
    → a ≡ a'
    → b ≡ b'
    → c ≡ c'
    → d ≡ d'
    → o₁ ≡ stored o at (a' ∷ b' ∷ c' ∷ d' ∷ [])
four_given at o e a b c d = rw (← a, ← b, ← c, ← d) e
