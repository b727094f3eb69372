-- No exchange's last quote is better than the best, and the best is one of theirs.
use Prim.Native.Nat.{ℕ, zero, suc, ◌+◌, ◌-◌, ◌≤◌, ◌<◌}
use mathlib.Core.Path.{◌≡◌, refl, sym, ap, ◌∙◌}
use mathlib.Core.Bool.{Bool, true, false, false≢true}
use mathlib.Core.Logic.{◌⊎◌, inl, inr, ⊎_elim}
use mathlib.Core.List.{List, [], ◌∷◌, map}
use native.Mathlib.Nat.{le_refl, add-zero}
use native.Mathlib.Omega.{arith}
use lib.Dec.{ltb}
use lib.ListN.{get_or}
use borrow.Author.Tests.{ltb-true, ltb-false}
use Rattle.wire.proofs.Tests.{either}
use Rattle.halves.specs.Halves.{better}
use Rattle.best.specs.Words.{Mills, Price, Some, None, Quote, Posted, Half, Bid, Offer}
use Rattle.best.specs.Lasts.{last_of, lasts_from, lasts}
use Rattle.best.specs.Best.{nobody, said_by, best_price}
use Rattle.lookups.specs.Lookups.{NoBetter}

abbrev is_price : Price → Bool
is_price (Some m) = true
is_price None = false

mine : (h : Half) (p r : Price) → NoBetter h p (better h p r)
mine h None r = tt
mine Bid (Some a) None = le_refl _
mine Offer (Some a) None = le_refl _
mine Bid (Some a) (Some b) = either (λ m. a.0 ≤ m.0) (ltb a.0 b.0) b a (λ e. omega (arith, ltb-true a.0 b.0 e)) (λ e. le_refl _)
mine Offer (Some a) (Some b) = either (λ m. m.0 ≤ a.0) (ltb b.0 a.0) b a (λ e. omega (arith, ltb-true b.0 a.0 e)) (λ e. le_refl _)

rest : (h : Half) (x p r : Price) → NoBetter h x r → NoBetter h x (better h p r)
rest h None p r g = tt
rest h (Some x) None r g = g
rest h (Some x) (Some a) None g = absurd g
rest Bid (Some x) (Some a) (Some b) g = either (λ m. x.0 ≤ m.0) (ltb a.0 b.0) b a (λ e. g) (λ e. omega (arith, ltb-false a.0 b.0 e))
rest Offer (Some x) (Some a) (Some b) g = either (λ m. m.0 ≤ x.0) (ltb b.0 a.0) b a (λ e. g) (λ e. omega (arith, ltb-false b.0 a.0 e))

pub no_better : (h : Half) (qs : List Quote) (k : ℕ) → NoBetter h (get_or qs k nobody).price (best_price h qs)
unfolding best_price
no_better h [] k = tt
no_better h (q ∷ qs) zero = mine h q.price (best_price h qs)
no_better h (q ∷ qs) (suc k) = rest h (get_or qs k nobody).price q.price (best_price h qs) (no_better h qs k)

one : (h : Half) (p r : Price) → (better h p r ≡ p) ⊎ (better h p r ≡ r)
one h None r = inr refl
one h (Some a) None = inl refl
one Bid (Some a) (Some b) = either (λ m. (Some m ≡ Some a) ⊎ (Some m ≡ Some b)) (ltb a.0 b.0) b a (λ e. inr refl) (λ e. inl refl)
one Offer (Some a) (Some b) = either (λ m. (Some m ≡ Some a) ⊎ (Some m ≡ Some b)) (ltb b.0 a.0) b a (λ e. inr refl) (λ e. inl refl)

pub attained : (h : Half) (qs : List Quote) → (k : ℕ) × ((get_or qs k nobody).price ≡ best_price h qs)
unfolding best_price
attained h [] = (0, refl)
attained h (q ∷ qs) =
    ⊎_elim (λ e. (0, rw e)) (λ e. let a = attained h qs in (suc a.0, rw e a.1)) (one h q.price (best_price h qs))

-- ---- the same of the sixteen exchanges by their numbers
said_get : (h : Half) (n k e : ℕ) (qs : List Posted) → k < n → get_or (map (said_by h) (lasts_from e n qs)) k nobody ≡ said_by h (last_of (e + k) qs)
unfolding lasts_from
said_get h zero k e qs l = let z : ⊥ = omega arith in absurd z
said_get h (suc n) zero e qs l = rw add-zero
said_get h (suc n) (suc k) e qs l = let z : e + suc k ≡ suc e + k = omega arith in rw z (said_get h n k (suc e) qs (omega arith))

beyond : (h : Half) (n k e : ℕ) (qs : List Posted) → n ≤ k → get_or (map (said_by h) (lasts_from e n qs)) k nobody ≡ nobody
unfolding lasts_from
beyond h zero k e qs l = refl
beyond h (suc n) zero e qs l = let z : ⊥ = omega arith in absurd z
beyond h (suc n) (suc k) e qs l = beyond h n k (suc e) qs (omega arith)

module _ (h : Half) (qs : List Posted) where
  abbrev best : Price
  best = best_price h (map (said_by h) (lasts qs))

  pub no_better_said : (e : ℕ) → 1 ≤ e → e ≤ 16 → NoBetter h (said_by h (last_of e qs)).price best
  no_better_said e lo hi =
      let z : 1 + (e - 1) ≡ e = omega arith in
      rw (said_get h 16 (e - 1) 1 qs (omega arith), z) at (no_better h (map (said_by h) (lasts qs)) (e - 1))

  pub is_one : (m : Mills) → best ≡ Some m → (e : ℕ) × (1 ≤ e) × (e ≤ 16) × ((said_by h (last_of e qs)).price ≡ Some m)
  is_one m b =
      let a = attained h (map (said_by h) (lasts qs)) in
      by_place a.0 (a.1 ∙ b) (ltb a.0 16) refl where
        none_at : None ≡ Some m → ⊥
        none_at e = false≢true (ap is_price e)

        by_place : (k : ℕ) → (get_or (map (said_by h) (lasts qs)) k nobody).price ≡ Some m → (t : Bool) → ltb k 16 ≡ t
            → (e : ℕ) × (1 ≤ e) × (e ≤ 16) × ((said_by h (last_of e qs)).price ≡ Some m)
        by_place k p true t =
            let l = ltb-true k 16 t in
            (1 + k, omega arith, omega arith, ap (λ (q : Quote). q.price) (sym (said_get h 16 k 1 qs l)) ∙ p)
        by_place k p false t = absurd (none_at (sym (ap (λ (q : Quote). q.price) (beyond h 16 k 1 qs (ltb-false k 16 t))) ∙ p))
