-- A number written and read again is the number; bytes read and written again are the bytes. Proved once, over the width.
use Prim.Native.Nat.{ℕ, zero, suc, ◌+◌, ◌*◌, ◌/◌, ◌%◌, ◌<◌}
use mathlib.Core.Path.{◌≡◌, refl, sym, ap, ◌∙◌}
use mathlib.Core.List.{List, ◌∷◌}
use native.Mathlib.Omega.{arith}
use native.Mathlib.Nat.{zero-add}
use lib.ListN.{length, get_or, drop}
use lib.Seq.{drop-cons, drop-length}
use Rattle.wire.specs.Numbers.{AreBytes, joined, bytes, elements_from, elements, number_at}

-- what w bytes can hold
abbrev pub room : ℕ → ℕ
room zero = 1
room (suc w) = 256 * room w

pub joined_bytes : (w n : ℕ) → n < room w → joined (bytes w n) ≡ n
joined_bytes zero n h = omega arith
joined_bytes (suc w) n h =
    let e = joined_bytes w (n / 256) (omega arith) in omega arith

-- all the elements of a list, from the first on, are the list
elements_left : (w k : ℕ) (s : List ℕ) → k + w ≡ length s → elements_from w s 0 k ≡ drop k s
elements_left zero k s e = sym (ap (λ (n : ℕ). drop n s) (let h : k ≡ length s = omega arith in h) ∙ drop-length s)
elements_left (suc w) k s e =
    ap (λ (n : ℕ). get_or s n 0 ∷ elements_from w s 0 (suc k)) (zero-add k)
    ∙ ap (λ (l : List ℕ). get_or s k 0 ∷ l) (elements_left w (suc k) s (omega arith))
    ∙ sym (drop-cons s k 0 (omega arith))

pub elements_all : (w : ℕ) (s : List ℕ) → length s ≡ w → elements w s 0 ≡ s
elements_all w s e = elements_left w 0 s (omega arith)

-- every byte of a slice is below 256
module _ (s : List ℕ) (small : AreBytes s) where
  bytes_joined : (w i k : ℕ) → bytes w (joined (elements_from w s i k)) ≡ elements_from w s i k
  bytes_joined zero i k = refl
  bytes_joined (suc w) i k =
      let b = get_or s (i + k) 0 in
      let m = joined (elements_from w s i (suc k)) in
      let low : (b + 256 * m) % 256 ≡ b = omega (arith, small (i + k)) in
      let rest : (b + 256 * m) / 256 ≡ m = omega (arith, small (i + k)) in
      let e = bytes_joined w i (suc k) in
      simp (low, rest, e)

  pub bytes_number : (w i : ℕ) → bytes w (number_at w s i) ≡ elements w s i
  unfolding number_at
  bytes_number w i = bytes_joined w i 0
