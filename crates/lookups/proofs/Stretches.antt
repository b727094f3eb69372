-- A stretch stored in a list: what stands there afterwards, what stands elsewhere, and that storing what stands there already changes nothing.
use Prim.Native.Nat.{ℕ, zero, suc, ◌+◌, ◌≤◌, ◌<◌}
use mathlib.Core.Path.{◌≡◌, refl, ap, ap₂, ◌∙◌}
use mathlib.Core.Logic.{◌⊎◌, inl, inr, ⊎_elim}
use mathlib.Core.List.{List, [], ◌∷◌}
use native.Mathlib.Omega.{arith}
use lib.ListN.{length, get_or, set, drop, length-set}
use lib.Seq.{get_or-set_same, get_or-set_other}
use Rattle.wire.specs.Numbers.{elements_from, stored_from, stored}

-- a byte before the stretch or after it
pub outside : (bs o : List ℕ) (i k j : ℕ) → (j < i + k) ⊎ (i + k + length bs ≤ j) → get_or (stored_from o i k bs) j 0 ≡ get_or o j 0
outside [] o i k j h = refl
outside (b ∷ bs) o i k j h =
    outside bs (set o (i + k) b) i (suc k) j (⊎_elim (λ l. inl (omega arith)) (λ l. inr (omega arith)) h)
    ∙ get_or-set_other o (i + k) j b 0 (λ e. ⊎_elim (λ l. omega arith) (λ l. omega arith) h)

pub elements_outside : (w m : ℕ) (bs o : List ℕ) (i k : ℕ) → (i + k + w ≤ m) ⊎ (m + length bs ≤ i + k) → elements_from w (stored o m bs) i k ≡ elements_from w o i k
elements_outside zero m bs o i k h = refl
elements_outside (suc w) m bs o i k h =
    ap₂ ◌∷◌ (outside bs o m 0 (i + k) (⊎_elim (λ l. inl (omega arith)) (λ l. inr (omega arith)) h))
    (elements_outside w m bs o i (suc k) (⊎_elim (λ l. inl (omega arith)) (λ l. inr (omega arith)) h))

pub elements_stored : (bs o : List ℕ) (i k : ℕ) → i + k + length bs ≤ length o → elements_from (length bs) (stored_from o i k bs) i k ≡ bs
elements_stored [] o i k h = refl
elements_stored (b ∷ bs) o i k h =
    ap₂ ◌∷◌ (outside bs (set o (i + k) b) i (suc k) (i + k) (inl (omega arith)) ∙ get_or-set_same o (i + k) b 0 (omega arith))
    (elements_stored bs (set o (i + k) b) i (suc k) (rw length-set (omega arith)))

pub length_stored : (bs o : List ℕ) (i k : ℕ) → length (stored_from o i k bs) ≡ length o
length_stored [] o i k = refl
length_stored (b ∷ bs) o i k = length_stored bs (set o (i + k) b) i (suc k) ∙ simp length-set

set_same : (o : List ℕ) (i b : ℕ) → get_or o i 0 ≡ b → set o i b ≡ o
set_same [] i b h = refl
set_same (x ∷ o) zero b h = rw h
set_same (x ∷ o) (suc i) b h = ap (λ (l : List ℕ). x ∷ l) (set_same o i b h)

pub stored_same : (bs o : List ℕ) (i k : ℕ) → elements_from (length bs) o i k ≡ bs → stored_from o i k bs ≡ o
stored_same [] o i k h = refl
stored_same (b ∷ bs) o i k h =
    let here : get_or o (i + k) 0 ≡ b = ap (λ (l : List ℕ). get_or l 0 0) h in
    let more : elements_from (length bs) o i (suc k) ≡ bs = ap (λ (l : List ℕ). drop 1 l) h in
    rw (set_same o (i + k) b here) (stored_same bs o i (suc k) more)
