-- Fields appended one after the other, each with the byte after it, are the line.
use Prim.Native.Nat.{ℕ}
use mathlib.Core.Path.{◌≡◌}
use mathlib.Core.List.{List, [], ◌∷◌, ◌++◌, append_assoc}
use Rattle.wire.proofs.Rows.{Ran}
use Rattle.lines.specs.Lines.{ended, line}

pub two_fields : (f g : List ℕ) → ended f 32 ++ ended g 10 ≡ line (f ∷ g ∷ [])
two_fields f g = simp append_assoc

pub three_fields : (f g h : List ℕ) → (ended f 32 ++ ended g 32) ++ ended h 10 ≡ line (f ∷ g ∷ h ∷ [])
three_fields f g h = simp append_assoc

pub four_fields : (f g h i : List ℕ) → ((ended f 32 ++ ended g 32) ++ ended h 32) ++ ended i 10 ≡ line (f ∷ g ∷ h ∷ i ∷ [])
four_fields f g h i = simp append_assoc

pub five_more : (f g h i j k : List ℕ) (rest : List (List ℕ))
    → ((((ended f 32 ++ ended g 32) ++ ended h 32) ++ ended i 32) ++ ended j 32) ++ line (k ∷ rest) ≡ line (f ∷ g ∷ h ∷ i ∷ j ∷ k ∷ rest)
five_more f g h i j k rest = simp append_assoc

-- a run of appends, under the line's own name
pub as_line : (w v l m : List ℕ) (k : ℕ) → w ≡ v → Ran w l k m → Ran v l k m
as_line w v l m k e h = rw (← e) h
