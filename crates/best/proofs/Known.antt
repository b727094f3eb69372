-- The last quotes of the sixteen, where one more quote comes in front; and how many of them are known.
use Prim.Native.Nat.{ℕ, zero, suc, ◌+◌, ◌≤◌, ◌<◌}
use mathlib.Core.Path.{◌≡◌, refl, ap}
use mathlib.Core.Bool.{Bool, true, false, false≢true, true≢false}
use mathlib.Core.List.{List, [], ◌∷◌}
use native.Mathlib.Omega.{arith}
use lib.Dec.{eqb}
use lib.ListN.{length, get_or, set}
use borrow.Author.Tests.{eq-eqb, ne_eqb}
use Rattle.wire.specs.Tests.{pick}
use Rattle.wire.proofs.Tests.{both_true}
use Rattle.best.specs.Words.{Posted, Last, None, Some}
use Rattle.best.specs.Lasts.{or_else, last_of, lasts_from, lasts}
use Rattle.best.specs.Examined.{known, all_known}

pub or_nothing : (l : Last) → or_else l None ≡ l
or_nothing None = refl
or_nothing (Some q) = refl

or_known : (l m : Last) → known l ≡ true → or_else l m ≡ l
or_known None m h = absurd (false≢true h)
or_known (Some q) m h = refl

-- ---- a quote of no exchange that is asked about
other : (e : ℕ) (q : Posted) (qs : List Posted) → (q.exchange ≡ e → ⊥) → last_of e (q ∷ qs) ≡ last_of e qs
unfolding last_of
other e q qs h = simp (ne_eqb q.exchange e h) (or_nothing (last_of e qs))

others : (m e : ℕ) (q : Posted) (qs : List Posted) → q.exchange < e → lasts_from e m (q ∷ qs) ≡ lasts_from e m qs
unfolding lasts_from
others zero e q qs h = refl
others (suc m) e q qs h =
    rw (other e q qs (λ z. omega arith), others m (suc e) q qs (omega arith))

-- ---- a quote of the exchange that stands at place i: it is that exchange's last unless one is known
-- the sixteen after it
abbrev pub heard : List Last → ℕ → Posted → List Last
heard ls i q = pick (known (get_or ls i None)) ls (set ls i (Some q))

mine : (e : ℕ) (q : Posted) (qs : List Posted) → q.exchange ≡ e → last_of e (q ∷ qs) ≡ or_else (last_of e qs) (Some q)
unfolding last_of
mine e q qs h = simp (eq-eqb q.exchange e h)

heard_head : (l : Last) (ls : List Last) (q : Posted) → or_else l (Some q) ∷ ls ≡ heard (l ∷ ls) 0 q
heard_head None ls q = refl
heard_head (Some p) ls q = refl

under : (b : Bool) (l : Last) (xs ys : List Last) → l ∷ pick b xs ys ≡ pick b (l ∷ xs) (l ∷ ys)
under true l xs ys = refl
under false l xs ys = refl

heard_from : (m e i : ℕ) (q : Posted) (qs : List Posted) → q.exchange ≡ e + i → i < m → lasts_from e m (q ∷ qs) ≡ heard (lasts_from e m qs) i q
unfolding lasts_from
heard_from zero e i q qs h l = let z : ⊥ = omega arith in absurd z
heard_from (suc m) e zero q qs h l =
    rw (mine e q qs (omega arith), others m (suc e) q qs (omega arith)) (heard_head (last_of e qs) (lasts_from (suc e) m qs) q)
heard_from (suc m) e (suc i) q qs h l =
    rw (other e q qs (λ z. omega arith), heard_from m (suc e) i q qs (omega arith) (omega arith))
    (under (known (get_or (lasts_from (suc e) m qs) i None)) (last_of e qs) _ _)

pub heard_next : (i : ℕ) (q : Posted) (qs : List Posted) → q.exchange ≡ 1 + i → i < 16 → lasts (q ∷ qs) ≡ heard (lasts qs) i q
heard_next i q qs h l = heard_from 16 1 i q qs h l

-- ---- where all are known, a quote in front changes nothing
kept_from : (m e : ℕ) (q : Posted) (qs : List Posted) → all_known (lasts_from e m qs) ≡ true → lasts_from e m (q ∷ qs) ≡ lasts_from e m qs
unfolding lasts_from all_known last_of
kept_from zero e q qs h = refl
kept_from (suc m) e q qs h =
    let b = both_true (known (last_of e qs)) _ h in
    rw (or_known (last_of e qs) (pick (eqb q.exchange e) (Some q) None) b.0, kept_from m (suc e) q qs b.1)

pub kept : (q : Posted) (qs : List Posted) → all_known (lasts qs) ≡ true → lasts (q ∷ qs) ≡ lasts qs
kept q qs h = kept_from 16 1 q qs h

-- ---- how many are known
unfoldable pub counted : List Last → ℕ
counted [] = 0
counted (l ∷ ls) = pick (known l) 1 0 + counted ls

pub counted_most : (ls : List Last) → counted ls ≤ length ls
unfolding counted
counted_most [] = omega arith
counted_most (None ∷ ls) = omega (arith, counted_most ls)
counted_most (Some q ∷ ls) = omega (arith, counted_most ls)

pub all_counted : (ls : List Last) → counted ls ≡ length ls → all_known ls ≡ true
unfolding counted all_known
all_counted [] h = refl
all_counted (None ∷ ls) h = let z : ⊥ = omega (arith, counted_most ls) in absurd z
all_counted (Some q ∷ ls) h = all_counted ls (omega arith)

pub not_all_counted : (ls : List Last) → counted ls < length ls → all_known ls ≡ false
unfolding counted all_known
not_all_counted [] h = let z : ⊥ = omega arith in absurd z
not_all_counted (None ∷ ls) h = refl
not_all_counted (Some q ∷ ls) h = not_all_counted ls (omega arith)

pub counted_more : (ls : List Last) (i : ℕ) (q : Posted) → known (get_or ls i None) ≡ false → i < length ls → counted (set ls i (Some q)) ≡ counted ls + 1
unfolding counted
counted_more [] i q h l = let z : ⊥ = omega arith in absurd z
counted_more (None ∷ ls) zero q h l = omega arith
counted_more (Some p ∷ ls) zero q h l = absurd (true≢false h)
counted_more (x ∷ ls) (suc i) q h l = omega (arith, counted_more ls i q h (omega arith))

pub lasts_length : (m e : ℕ) (qs : List Posted) → length (lasts_from e m qs) ≡ m
unfolding lasts_from
lasts_length zero e qs = refl
lasts_length (suc m) e qs = ap suc (lasts_length m (suc e) qs)
