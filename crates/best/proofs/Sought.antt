-- The last quote of one exchange strictly before the trade, sought from the end of a list of records.
use Prim.Native.Nat.{ℕ, zero, suc, ◌+◌, ◌-◌, ◌<◌}
use mathlib.Core.Path.{◌≡◌, refl, sym, ap, ◌∙◌}
use mathlib.Core.Bool.{Bool, true, false, ◌&&◌}
use mathlib.Core.List.{List, [], ◌∷◌}
use native.Mathlib.Nat.{add-zero, zero-add}
use native.Mathlib.Omega.{arith}
use lib.Dec.{ltb, eqb}
use Rattle.wire.specs.Tests.{pick}
use Rattle.quotes.specs.Quotes.{posted_at, posted_from}
use Rattle.best.specs.Words.{Posted, None, Some}
use Rattle.earlier.specs.Earlier.{earlier}
use Rattle.best.specs.Lasts.{last_of}

-- whether a quote is the exchange's, and strictly before the trade
abbrev Ours : ℕ → ℕ → Posted → Bool
Ours t e q = ltb q.time.0 t && eqb q.exchange e

alone : (c d : Bool) (e : ℕ) (q : Posted) → eqb q.exchange e ≡ d → last_of e (pick c (q ∷ []) []) ≡ pick (c && d) (Some q) None
unfolding last_of
alone true d e q h = rw h
alone false d e q h = refl

in_front : (c b : Bool) (e : ℕ) (q x : Posted) (ps qs : List Posted) → last_of e ps ≡ pick b (Some x) (last_of e qs)
    → last_of e (pick c (q ∷ ps) ps) ≡ pick b (Some x) (last_of e (pick c (q ∷ qs) qs))
unfolding last_of
in_front true true e q x ps qs h = rw h
in_front true false e q x ps qs h = rw h
in_front false b e q x ps qs h = h

-- the last record is the one that is sought, or those before it tell
sought_from : (s : List ℕ) (t e m k : ℕ)
    → last_of e (earlier t (posted_from s k (suc m))) ≡ pick (Ours t e (posted_at s (k + m))) (Some (posted_at s (k + m))) (last_of e (earlier t (posted_from s k m)))
unfolding posted_from earlier last_of
sought_from s t e zero k = rw add-zero (alone (ltb (posted_at s k).time.0 t) _ e (posted_at s k) refl)
sought_from s t e (suc m) k =
    let z : k + suc m ≡ suc k + m = omega arith in
    let x = posted_at s (suc k + m) in
    rw z (in_front (ltb (posted_at s k).time.0 t) (Ours t e x) e (posted_at s k) x (earlier t (posted_from s (suc k) (suc m)))
    (earlier t (posted_from s (suc k) m)) (sought_from s t e m (suc k)))

-- q is the last of the first n records
module _ (s : List ℕ) (t e n : ℕ) (q : Posted) (is : q ≡ posted_at s (n - 1)) (some : 0 < n) where
  sought : last_of e (earlier t (posted_from s 0 n)) ≡ pick (Ours t e q) (Some q) (last_of e (earlier t (posted_from s 0 (n - 1))))
  sought =
      let z : n ≡ suc (n - 1) = omega arith in
      ap (λ (m : ℕ). last_of e (earlier t (posted_from s 0 m))) z ∙ rw is (rw zero-add at (sought_from s t e (n - 1) 0))

  pub met_last : Ours t e q ≡ true → Some q ≡ last_of e (earlier t (posted_from s 0 n))
  met_last h = sym (sought ∙ rw h)

  pub passed : Ours t e q ≡ false → last_of e (earlier t (posted_from s 0 (n - 1))) ≡ last_of e (earlier t (posted_from s 0 n))
  passed h = sym (sought ∙ rw h)

pub nobody_met : (s : List ℕ) (t e n : ℕ) → n ≡ 0 → None ≡ last_of e (earlier t (posted_from s 0 n))
unfolding posted_from earlier last_of
nobody_met s t e n h = rw h
