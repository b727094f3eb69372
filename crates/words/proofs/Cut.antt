-- Phrases that stand one after the other, cut out again by where each starts.
use Prim.Native.Nat.{ℕ, zero, suc, ◌+◌, ◌-◌, ◌≤◌, ◌<◌, zero-le}
use mathlib.Core.Path.{◌≡◌, refl}
use mathlib.Core.Bool.{Bool, true, false}
use mathlib.Core.List.{List, [], ◌∷◌, ◌++◌}
use native.Mathlib.Numerals.{add-one}
use native.Mathlib.Nat.{not-suc-le-zero}
use native.Mathlib.Omega.{arith}
use lib.Dec.{T, leb, leb→le}
use lib.ListN.{length, get_or, take, drop, length-append}
use lib.Seq.{take-append_seam, drop-append_seam, drop-drop}
use Rattle.words.specs.Phrases.{phrases, phrase_of, flat, start_of, all_phrases, phrase_count}
use Rattle.words.proofs.Table.{both}

start_next : (ws : List (List ℕ)) (n : ℕ) → n < length ws → start_of (suc n) ws ≡ start_of n ws + length (get_or ws n [])
start_next [] n h = absurd (not-suc-le-zero h)
start_next (w ∷ ws) zero h = omega arith
start_next (w ∷ ws) (suc n) h = let e = start_next ws n (omega arith) in omega (arith, e)

start_most : (ws : List (List ℕ)) (n : ℕ) → start_of n ws ≤ length (flat ws)
start_most ws zero = zero-le
start_most [] (suc n) = zero-le
start_most (w ∷ ws) (suc n) = omega (arith, start_most ws n, length-append w (flat ws))

at_start : (ws : List (List ℕ)) (n : ℕ) → take (length (get_or ws n [])) (drop (start_of n ws) (flat ws)) ≡ get_or ws n []
at_start [] zero = refl
at_start [] (suc n) = refl
at_start (w ∷ ws) zero = take-append_seam w (flat ws)
at_start (w ∷ ws) (suc n) =
    rw (← drop-drop (start_of n ws) (length w) (w ++ flat ws), drop-append_seam) (at_start ws n)

-- no phrase is longer than 56 bytes: computed, one after the other
abbrev short : List (List ℕ) → Bool
short [] = true
short (w ∷ ws) = both (leb (length w) 56) (short ws)

both_of : (a b : Bool) → T (both a b) → T a × T b
both_of true b t = (tt, t)
both_of false b t = absurd t

each_short : (ws : List (List ℕ)) → T (short ws) → (n : ℕ) → length (get_or ws n []) ≤ 56
each_short [] t n = zero-le
each_short (w ∷ ws) t zero = leb→le (length w) 56 (both_of (leb (length w) 56) (short ws) t).0
each_short (w ∷ ws) t (suc n) = each_short ws (both_of (leb (length w) 56) (short ws) t).1 n

pub phrase_short : (n : ℕ) → length (phrase_of n) ≤ 56
unfolding phrase_of phrases
phrase_short n = each_short phrases tt n

past : (ws : List (List ℕ)) (n : ℕ) → length ws ≤ n → get_or ws n [] ≡ []
past [] n h = refl
past (w ∷ ws) zero h = absurd (not-suc-le-zero h)
past (w ∷ ws) (suc n) h = past ws n (omega arith)

many : length phrases ≡ phrase_count
unfolding phrases
many = refl

pub no_phrase : (n : ℕ) → phrase_count ≤ n → phrase_of n ≡ []
unfolding phrase_of
no_phrase n h = past phrases n (omega (arith, many))

module _ (n a e : ℕ) (l : n < phrase_count) (h : a ≡ start_of n phrases) (h' : e ≡ start_of (n + 1) phrases) where
  pub places : (e ≡ a + length (phrase_of n)) × (e ≤ length all_phrases)
  unfolding phrase_of all_phrases
  places =
      let k : e ≡ start_of n phrases + length (get_or phrases n []) = rw (h', add-one) (start_next phrases n (omega (arith, many))) in
      (rw h k, rw h' (start_most phrases (n + 1)))

  pub cut_out : (all : List ℕ) → all ≡ all_phrases → take (e - a) (drop a all) ≡ phrase_of n
  unfolding phrase_of all_phrases
  cut_out all g =
      let k : e - a ≡ length (get_or phrases n []) = omega (arith, places.0) in
      rw (k, h, g) (at_start phrases n)
