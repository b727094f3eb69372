-- The laws of digits read one by one.
use Prim.Native.Nat.{ℕ, ◌+◌, ◌-◌, ◌*◌, ◌≤◌, ◌<◌, min}
use mathlib.Core.Path.{◌≡◌, refl, sym, ap, ◌∙◌}
use mathlib.Core.Bool.{true, false}
use mathlib.Core.List.{List, [], ◌∷◌}
use native.Mathlib.Numerals.{add-one}
use native.Mathlib.Omega.{arith}
use lib.ListN.{length, get_or, drop, drop_of_length-le}
use lib.Seq.{drop-cons}
use borrow.Author.Tests.{le-leb}
use Rattle.wire.specs.Tests.{pick, in_range}
use Rattle.text.specs.Text.{all_digits, value_from}
use Rattle.spelling.specs.Words.{Typed, Some, None}
use Rattle.spelling.specs.Times.{count_in}

-- ---- digits one by one, up to the largest number of four bytes
abbrev top : ℕ
top = 4294967295

-- stopping at the top with each digit is stopping at the top at the end
saturated : (m : ℕ) (w : List ℕ) → min (value_from (min m top) w) top ≡ min (value_from m w) top
saturated m [] = omega arith
saturated m (b ∷ w) =
    let x = min m top * 10 + (b - 48) in
    let y = m * 10 + (b - 48) in
    let e : min x top ≡ min y top = omega arith in
    sym (saturated x w) ∙ ap (λ (k : ℕ). min (value_from k w) top) e ∙ saturated y w

-- what a number says whose first digits said n, and of which w is left
abbrev pub count_from : ℕ → List ℕ → Typed
count_from n w = pick (all_digits w) (Some (min (value_from n w) top)) None

pub count_empty : (w : List ℕ) → length w ≡ 0 → None ≡ count_in w
unfolding count_in
count_empty w h = rw h

pub count_whole : (w : List ℕ) → (length w ≡ 0 → ⊥) → count_from 0 w ≡ count_in w
unfolding count_in
count_whole [] h = absurd (h refl)
count_whole (b ∷ w) h = rw (le-leb 1 (length (b ∷ w)) (omega arith))

pub count_end : (w : List ℕ) (i n : ℕ) → length w ≤ i → n ≤ top → Some n ≡ count_from n (drop i w)
count_end w i n h k = rw (drop_of_length-le w {i = i} h) (ap Some (let e : n ≡ min n top = omega arith in e))

-- one byte on: a digit is pushed, another byte ends it
module _ (w : List ℕ) (i n : ℕ) (h : i < length w) where
  pub count_on : in_range 48 57 (get_or w i 0) ≡ true
      → count_from (min (n * 10 + (get_or w i 0 - 48)) top) (drop (i + 1) w) ≡ count_from n (drop i w)
  count_on e = rw (drop-cons w i 0 h, e, add-one, saturated)

  pub count_off : in_range 48 57 (get_or w i 0) ≡ false → None ≡ count_from n (drop i w)
  count_off e = rw (drop-cons w i 0 h, e)
