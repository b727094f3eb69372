-- The walk back: what holds at its head, with the quotes from record i on read, of the first n.
use Prim.Native.Nat.{ℕ, zero, suc, ◌-◌, ◌/◌, ◌≤◌, ◌<◌}
use mathlib.Core.Path.{◌≡◌, refl, sym, ap, ◌∙◌}
use mathlib.Core.Bool.{Bool, true, false}
use mathlib.Core.List.{List, [], ◌∷◌}
use native.Mathlib.Numerals.{add-one}
use native.Mathlib.Omega.{arith}
use lib.Dec.{eqb}
use lib.ListN.{length, get_or, set, length-map, get_or-map, replicate}
use borrow.Author.Tests.{eqb-true, eqb-false}
use Rattle.quotes.specs.Quotes.{posted_at, posted_from}
use Rattle.quotes.proofs.Records.{all_left, posted_length, posted_none, posted_left}
use Rattle.best.specs.Words.{Posted, Last, None, Walk}
use Rattle.best.specs.Lasts.{lasts_from, lasts, last_of}
use Rattle.best.specs.Examined.{known, all_known, examined_in}
use Rattle.best.specs.Places.{placed_at, placed, met, Walked}
use Rattle.best.proofs.Known.{heard, heard_next, kept, counted, counted_most, all_counted, not_all_counted, counted_more, lasts_length}

-- the quotes that are read with the next record at i
abbrev pub read : List ℕ → ℕ → ℕ → List Posted
read s n i = posted_from s i (n - i)

pub record Turn (s : List ℕ) (n : ℕ) (w : Walk) (i : ℕ) : Type 0 where
  pub from : i ≤ n
  pub last : placed s w.last ≡ lasts (read s n i)
  pub count : w.known ≡ counted (lasts (read s n i))
  pub most : w.known ≤ 16
  pub done : n - i ≡ examined_in (read s n i)
  pub within : (k : ℕ) → get_or w.last k 0 ≤ n

-- ---- places
placed_set : (s : List ℕ) (l : List ℕ) (i v : ℕ) → placed s (set l i v) ≡ set (placed s l) i (placed_at s v)
placed_set s [] i v = refl
placed_set s (x ∷ l) zero v = refl
placed_set s (x ∷ l) (suc i) v = ap (λ (r : List Last). placed_at s x ∷ r) (placed_set s l i v)

placed_known : (s : List ℕ) (p : ℕ) → eqb p 0 ≡ false → known (placed_at s p) ≡ true
placed_known s zero h = absurd (eqb-false 0 0 h refl)
placed_known s (suc p) h = refl

placed_silent : (s : List ℕ) (p : ℕ) → eqb p 0 ≡ true → known (placed_at s p) ≡ false
placed_silent s p h = rw (eqb-true p 0 h)

placed_get : (s l : List ℕ) (i : ℕ) → get_or (placed s l) i None ≡ placed_at s (get_or l i 0)
placed_get s l i = get_or-map (placed_at s) l i 0

set_most : (n : ℕ) (l : List ℕ) (i v : ℕ) → ((k : ℕ) → get_or l k 0 ≤ n) → v ≤ n → (k : ℕ) → get_or (set l i v) k 0 ≤ n
set_most n [] i v h g k = h k
set_most n (x ∷ l) zero v h g zero = g
set_most n (x ∷ l) zero v h g (suc k) = h (suc k)
set_most n (x ∷ l) (suc i) v h g zero = h 0
set_most n (x ∷ l) (suc i) v h g (suc k) = set_most n l i v (λ j. h (suc j)) g k

-- ---- a quote met, in the list of the last quotes
module _ (s : List ℕ) (w : Walk) (i j : ℕ) where
  met_last : (b : Bool) → eqb (get_or w.last i 0) 0 ≡ b → placed s (met w i (suc j)).last ≡ heard (placed s w.last) i (posted_at s j)
  unfolding met
  met_last true e = rw (e, placed_get s w.last i, placed_silent s (get_or w.last i 0) e) (placed_set s w.last i (suc j))
  met_last false e = rw (e, placed_get s w.last i, placed_known s (get_or w.last i 0) e)

  met_known : (b : Bool) → eqb (get_or w.last i 0) 0 ≡ b → i < length w.last → w.known ≡ counted (placed s w.last)
      → (met w i (suc j)).known ≡ counted (heard (placed s w.last) i (posted_at s j))
  unfolding met
  met_known true e l c =
      let k : known (get_or (placed s w.last) i None) ≡ false = rw (placed_get s w.last i) (placed_silent s (get_or w.last i 0) e) in
      let m = counted_more (placed s w.last) i (posted_at s j) k (rw length-map l) in
      rw (e, k) (omega arith)
  met_known false e l c = rw (e, placed_get s w.last i, placed_known s (get_or w.last i 0) e) c

  met_within : (n : ℕ) (b : Bool) → eqb (get_or w.last i 0) 0 ≡ b → ((k : ℕ) → get_or w.last k 0 ≤ n) → suc j ≤ n → (k : ℕ) → get_or (met w i (suc j)).last k 0 ≤ n
  unfolding met
  met_within n true e h g = rw e (set_most n w.last i (suc j) h g)
  met_within n false e h g = rw e h

-- ---- the turns
zeros_most : (n m k : ℕ) → get_or (replicate m 0) k 0 ≤ n
zeros_most n zero k = omega arith
zeros_most n (suc m) zero = omega arith
zeros_most n (suc m) (suc k) = zeros_most n m k

pub first : (s : List ℕ) (n : ℕ) → Turn s n (record { last = replicate 16 0; known = 0 }) n
unfolding lasts_from last_of counted examined_in
first s n =
    let e : read s n n ≡ [] = posted_none s n n (omega arith) in
    record { from = omega arith; last = rw e; count = rw e; most = omega arith; done = rw e (omega arith); within = zeros_most n 16 }

module _ (s : List ℕ) (n : ℕ) (w : Walk) (j : ℕ) (t : Turn s n w (suc j)) (some : w.known ≡ 16 → ⊥)
    (lo : 1 ≤ (posted_at s j).exchange) (hi : (posted_at s j).exchange ≤ 16) where
  one_more : read s n j ≡ posted_at s j ∷ read s n (suc j)
  one_more = rw add-one at (posted_left s n j (omega (arith, t.from)))

  lasts_more : lasts (read s n j) ≡ heard (placed s w.last) ((posted_at s j).exchange - 1) (posted_at s j)
  lasts_more =
      ap lasts one_more
      ∙ heard_next ((posted_at s j).exchange - 1) (posted_at s j) (read s n (suc j)) (omega arith) (omega arith)
      ∙ ap (λ (ls : List Last). heard ls ((posted_at s j).exchange - 1) (posted_at s j)) (sym t.last)

  sixteen : length w.last ≡ 16
  sixteen = sym (length-map w.last (placed_at s)) ∙ ap length t.last ∙ lasts_length 16 1 (read s n (suc j))

  counted_now : (met w ((posted_at s j).exchange - 1) (suc j)).known ≡ counted (lasts (read s n j))
  counted_now =
      met_known s w ((posted_at s j).exchange - 1) j _ refl (omega (arith, sixteen)) (t.count ∙ ap counted (sym t.last))
      ∙ ap counted (sym lasts_more)

  not_all : all_known (lasts (read s n (suc j))) ≡ false
  not_all = not_all_counted (lasts (read s n (suc j))) (omega (arith, lasts_length 16 1 (read s n (suc j)), t.count, t.most))

  examined_more : examined_in (read s n j) ≡ suc (n - suc j)
  unfolding examined_in
  examined_more = rw (one_more, not_all) (ap suc (posted_length s (n - suc j) (suc j)))

  next_at : Turn s n (met w ((posted_at s j).exchange - 1) (suc j)) j
  next_at =
      record {
        from = omega (arith, t.from);
        last = met_last s w ((posted_at s j).exchange - 1) j _ refl ∙ sym lasts_more;
        count = counted_now;
        most = omega (arith, counted_now, counted_most (lasts (read s n j)), lasts_length 16 1 (read s n j));
        done = omega (arith, examined_more, t.from);
        within = met_within s w ((posted_at s j).exchange - 1) j n _ refl t.within t.from;
      }

pub next : (s : List ℕ) (n : ℕ) (w v : Walk) (i : ℕ) (q : Posted) → Turn s n w i → 0 < i → (w.known ≡ 16 → ⊥) → q ≡ posted_at s (i - 1)
    → 1 ≤ q.exchange → q.exchange ≤ 16 → v ≡ met w (q.exchange - 1) i → Turn s n v (i - 1)
next s n w v zero q t h some is lo hi e = let z : ⊥ = omega arith in absurd z
next s n w v (suc j) q t h some is lo hi e =
    let d : suc j - 1 ≡ j = omega arith in
    let is' : q ≡ posted_at s j = rw d at is in
    rw (d, e, is') (next_at s n w j t some (rw is' at lo) (rw is' at hi))

-- ---- the ends
all_read : (s : List ℕ) (n i : ℕ) → i ≤ n → all_known (lasts (read s n i)) ≡ true
    → (lasts (read s n i) ≡ lasts (read s n 0)) × (examined_in (read s n i) ≡ examined_in (read s n 0))
unfolding examined_in
all_read s n zero h k = (refl, refl)
all_read s n (suc i) h k =
    let m : read s n i ≡ posted_at s i ∷ read s n (suc i) = rw add-one at (posted_left s n i (omega arith)) in
    let e : lasts (read s n i) ≡ lasts (read s n (suc i)) = ap lasts m ∙ kept (posted_at s i) (read s n (suc i)) k in
    let f : examined_in (read s n i) ≡ examined_in (read s n (suc i)) = rw (m, k) in
    let r = all_read s n i (omega arith) (ap all_known e ∙ k) in
    (sym e ∙ r.0, sym f ∙ r.1)

module _ (s : List ℕ) (n : ℕ) (w : Walk) (i : ℕ) (t : Turn s n w i) (room : n ≤ length s / 28) where
  pub ended : i ≡ 0 → Walked s n w.last (n - i)
  ended e =
      let a : read s n i ≡ posted_from s 0 n = rw (e, all_left) in
      record { last = t.last ∙ ap lasts a; read = t.done ∙ ap examined_in a; within = λ k. omega (arith, t.within k) }

  -- all sixteen are known: the quotes before record i change nothing
  pub stopped : w.known ≡ 16 → Walked s n w.last (n - i)
  stopped e =
      let a : read s n 0 ≡ posted_from s 0 n = rw all_left in
      let k = all_counted (lasts (read s n i)) (sym t.count ∙ e ∙ sym (lasts_length 16 1 (read s n i))) in
      let r = all_read s n i t.from k in
      record { last = t.last ∙ r.0 ∙ ap lasts a; read = t.done ∙ r.1 ∙ ap examined_in a; within = λ k. omega (arith, t.within k) }
