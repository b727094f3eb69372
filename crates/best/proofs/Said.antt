-- What stands at the sixteen places, one after the other.
use Prim.Native.Nat.{ℕ, zero, suc, ◌+◌, ◌-◌, ◌≤◌, ◌<◌}
use mathlib.Core.Path.{◌≡◌, refl, ap, ◌∙◌}
use mathlib.Core.List.{List, [], ◌∷◌}
use native.Mathlib.Omega.{arith}
use lib.ListN.{length, get_or, drop, length-map, get_or-map, drop_of_length-le}
use lib.Seq.{drop-cons}
use Rattle.quotes.specs.Quotes.{posted_at}
use Rattle.halves.specs.Halves.{half_of, better, size_if}
use Rattle.best.specs.Words.{Price, Quote, Posted, Half, None, Some}
use Rattle.best.specs.Best.{nobody, said_by, best_price, size_at}
use Rattle.best.specs.Places.{placed_at, placed, said}

module _ (h : Half) (s places : List ℕ) where
  said_length : length (said h s places) ≡ length places
  said_length = length-map (placed s places) (said_by h) ∙ length-map places (placed_at s)

  said_get : (i : ℕ) → get_or (said h s places) i nobody ≡ said_by h (placed_at s (get_or places i 0))
  said_get i = get_or-map (said_by h) (placed s places) i None ∙ ap (said_by h) (get_or-map (placed_at s) places i 0)

  none_said : (i : ℕ) → length places ≤ i → drop i (said h s places) ≡ []
  none_said i l = drop_of_length-le (said h s places) {i = i} (rw said_length l)

  -- the one at place i - 1 and those after it
  one_said : (i : ℕ) → 0 < i → i ≤ length places → drop (i - 1) (said h s places) ≡ said_by h (placed_at s (get_or places (i - 1) 0)) ∷ drop i (said h s places)
  one_said i a b =
      let e : suc (i - 1) ≡ i = omega arith in
      drop-cons (said h s places) (i - 1) nobody (omega (arith, said_length))
      ∙ rw (e, said_get)

  pub best_start : (i : ℕ) → length places ≤ i → None ≡ best_price h (drop i (said h s places))
  unfolding best_price
  best_start i l = rw (none_said i l)

  pub best_turn : (i : ℕ) (p q : Price) (x : Quote) → 0 < i → i ≤ length places → x ≡ said_by h (placed_at s (get_or places (i - 1) 0))
      → p ≡ best_price h (drop i (said h s places)) → q ≡ better h x.price p → q ≡ best_price h (drop (i - 1) (said h s places))
  unfolding best_price
  best_turn i p q x a b ex ep eq = rw (one_said i a b, ← ex, ← ep) eq

  pub size_start : (price : Price) (i : ℕ) → length places ≤ i → 0 ≡ size_at price (drop i (said h s places))
  unfolding size_at
  size_start price i l = rw (none_said i l)

  pub size_turn : (price : Price) (i sum size : ℕ) (x : Quote) → 0 < i → i ≤ length places → x ≡ said_by h (placed_at s (get_or places (i - 1) 0))
      → sum ≡ size_at price (drop i (said h s places)) → size ≡ size_if price x → sum + size ≡ size_at price (drop (i - 1) (said h s places))
  unfolding size_at
  size_turn price i sum size x a b ex es ez = rw (one_said i a b, ← ex, ← es, ← ez) (omega arith)

-- the quote at a place that is not 0
sent_at : (s : List ℕ) (place : ℕ) → (place ≡ 0 → ⊥) → placed_at s place ≡ Some (posted_at s (place - 1))
sent_at s zero h = absurd (h refl)
sent_at s (suc k) h = let e : suc k - 1 ≡ k = omega arith in rw e

pub said_there : (h : Half) (s : List ℕ) (place : ℕ) (q : Posted) (x : Quote) → (place ≡ 0 → ⊥) → q ≡ posted_at s (place - 1) → x ≡ half_of h q
    → x ≡ said_by h (placed_at s place)
said_there h s place q x some is e = rw (sent_at s place some, ← is) e
