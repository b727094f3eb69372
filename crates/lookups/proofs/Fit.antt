-- What is found passes the tests 5 and 6 on quotes.
use Rattle.std.specs.Prelude.{Some, None}
use Prim.Native.Nat.{ℕ, zero, suc, ◌≤◌, min}
use mathlib.Core.Path.{◌≡◌, refl}
use mathlib.Core.Bool.{Bool, true, false, ◌&&◌, ◌||◌}
use mathlib.Core.Logic.{◌⊎◌, ⊎_elim, inl, inr}
use mathlib.Core.List.{List, [], ◌∷◌, map}
use native.Mathlib.Omega.{arith}
use lib.Dec.{leb, eqb, ltb}
use borrow.Author.Tests.{leb-true, eqb-true, le-leb, eq-eqb}
use Rattle.wire.specs.Tests.{pick, in_range}
use Rattle.wire.proofs.Tests.{both_true, either}
use Rattle.facts.specs.Numbers.{contracts}
use Rattle.quotes.specs.Quotes.{posted_from, posted_in, is_quote, side_ok, fields_ok, record_ok, records_ok, quotes_refusal_of}
use Rattle.quotes.proofs.Accepted.{all_ok_lem}
use Rattle.halves.specs.Halves.{half_of, better, same, size_if}
use Rattle.best.specs.Words.{Last}
use Rattle.best.specs.Words.{Mills, Price, Some, None, Quote, Posted, Half, Bid, Offer}
use Rattle.earlier.specs.Earlier.{earlier}
use Rattle.best.specs.Lasts.{or_else, last_of, lasts_from}
use Rattle.best.specs.Best.{said_by, best_price, size_at, best_of}
use Rattle.best.specs.Found.{found_in, refused, found_of}
use Rattle.lookups.specs.Lookups.{Passes}

or_split : (a b : Bool) → (a || b) ≡ true → (a ≡ true) ⊎ (b ≡ true)
or_split true b h = inl refl
or_split false b h = inr h

or_left : (a b : Bool) → a ≡ true → (a || b) ≡ true
or_left a b h = rw h

or_right : (a b : Bool) → b ≡ true → (a || b) ≡ true
or_right true b h = refl
or_right false b h = h

-- ---- the best of quotes that pass
abbrev AllOk : List Quote → Type 0
AllOk [] = Unit {0}
AllOk (q ∷ qs) = (side_ok q ≡ true) × AllOk qs

-- a price in range, and a size at it unless it is zero
abbrev Good : Price → List Quote → Type 0
Good None qs = Unit {0}
Good (Some m) qs = (m.0 ≤ 9999999) × ((m.0 ≡ 0) ⊎ (1 ≤ size_at (Some m) qs))

good_rest : (q : Quote) (qs : List Quote) (p : Price) → Good p qs → Good p (q ∷ qs)
unfolding size_at
good_rest q qs None g = tt
good_rest q qs (Some m) g = (g.0, ⊎_elim (λ e. inl e) (λ l. inr (omega arith)) g.1)

good_mine : (q : Quote) (qs : List Quote) (a : Mills) → q.price ≡ Some a → side_ok q ≡ true → Good (Some a) (q ∷ qs)
unfolding side_ok size_at size_if
good_mine q qs a e o =
    let b = both_true _ _ (rw e at o) in
    let d = both_true (leb q.size.0 1000000) _ b.1 in
    let size : pick (same (Some a) q.price) q.size.0 0 ≡ q.size.0 = rw (e, eq-eqb a.0 a.0 refl) in (
      leb-true a.0 9999999 b.0,
      ⊎_elim (λ z. inl (eqb-true a.0 0 z)) (λ l. inr (omega (arith, leb-true 1 q.size.0 l, size))) (or_split (eqb a.0 0) _ d.1),
    )

good_better : (h : Half) (q : Quote) (qs : List Quote) (p r : Price) → q.price ≡ p → side_ok q ≡ true → Good r qs → Good (better h p r) (q ∷ qs)
good_better h q qs None r e o g = good_rest q qs r g
good_better h q qs (Some a) None e o g = good_mine q qs a e o
good_better Bid q qs (Some a) (Some b) e o g = either (λ m. Good (Some m) (q ∷ qs)) (ltb a.0 b.0) b a (λ z. good_rest q qs (Some b) g) (λ z. good_mine q qs a e o)
good_better Offer q qs (Some a) (Some b) e o g = either (λ m. Good (Some m) (q ∷ qs)) (ltb b.0 a.0) b a (λ z. good_rest q qs (Some b) g) (λ z. good_mine q qs a e o)

best_good : (h : Half) (qs : List Quote) → AllOk qs → Good (best_price h qs) qs
unfolding best_price
best_good h [] o = tt
best_good h (q ∷ qs) o = good_better h q qs q.price (best_price h qs) refl o.0 (best_good h qs o.1)

nothing_at_none : (qs : List Quote) → size_at None qs ≡ 0
unfolding size_at size_if
nothing_at_none [] = refl
nothing_at_none (q ∷ qs) = omega (arith, nothing_at_none qs)

good_ok : (p : Price) (qs : List Quote) → Good p qs → side_ok (record { price = p; size = contracts (min (size_at p qs) 1000000) }) ≡ true
unfolding side_ok
good_ok None qs g = rw (nothing_at_none qs)
good_ok (Some m) qs g =
    let z = min (size_at (Some m) qs) 1000000 in
    let some : (eqb m.0 0 || leb 1 z) ≡ true = ⊎_elim (λ e. or_left (eqb m.0 0) (leb 1 z) (eq-eqb m.0 0 e)) (λ l. or_right (eqb m.0 0) (leb 1 z) (le-leb 1 z (omega arith))) g.1 in
    simp (le-leb m.0 9999999 g.0, le-leb z 1000000 (omega arith), some)

best_ok : (h : Half) (qs : List Quote) → AllOk qs → side_ok (best_of h qs) ≡ true
unfolding best_of
best_ok h qs o = good_ok (best_price h qs) qs (best_good h qs o)

-- ---- the exchanges' last quotes pass
abbrev Fit : List Posted → Type 0
Fit [] = Unit {0}
Fit (q ∷ qs) = (fields_ok q ≡ true) × Fit qs

fit_from : (s : List ℕ) (n k : ℕ) → records_ok s k n ≡ true → Fit (posted_from s k n)
unfolding posted_from records_ok record_ok
fit_from s zero k h = tt
fit_from s (suc n) k h =
    let b = both_true (record_ok s k) _ h in ((both_true (is_quote s k) _ b.0).1, fit_from s n (suc k) b.1)

fit_earlier : (t : ℕ) (qs : List Posted) → Fit qs → Fit (earlier t qs)
unfolding earlier
fit_earlier t [] f = tt
fit_earlier t (q ∷ qs) f = either Fit (ltb q.time.0 t) _ _ (λ z. (f.0, fit_earlier t qs f.1)) (λ z. fit_earlier t qs f.1)

half_ok : (h : Half) (q : Posted) → fields_ok q ≡ true → side_ok (half_of h q) ≡ true
unfolding fields_ok
half_ok Bid q f = (both_true (in_range 1 16 q.exchange && leb q.time.0 86399) _ (both_true (in_range 1 16 q.exchange && leb q.time.0 86399 && side_ok q.bid) _ f).0).1
half_ok Offer q f = (both_true (in_range 1 16 q.exchange && leb q.time.0 86399 && side_ok q.bid) _ f).1

module _ (h : Half) where
  abbrev SaysOk : Last → Type 0
  SaysOk l = side_ok (said_by h l) ≡ true

  silent_ok : SaysOk None
  unfolding side_ok
  silent_ok = refl

  or_ok : (l m : Last) → SaysOk l → SaysOk m → SaysOk (or_else l m)
  or_ok None m a b = b
  or_ok (Some q) m a b = a

  last_ok : (e : ℕ) (qs : List Posted) → Fit qs → SaysOk (last_of e qs)
  unfolding last_of
  last_ok e [] f = silent_ok
  last_ok e (q ∷ qs) f =
      or_ok (last_of e qs) _ (last_ok e qs f.1) (either SaysOk (eqb q.exchange e) (Some q) None (λ z. half_ok h q f.0) (λ z. silent_ok))

  lasts_ok : (n e : ℕ) (qs : List Posted) → Fit qs → AllOk (map (said_by h) (lasts_from e n qs))
  unfolding lasts_from
  lasts_ok zero e qs f = tt
  lasts_ok (suc n) e qs f = (last_ok e qs f, lasts_ok n (suc e) qs f)

-- ---- the law, for every byte string and every trade time
in_ok : (qs : List Posted) → Fit qs → Passes (found_in qs)
unfolding found_in
in_ok qs f = (best_ok Bid _ (lasts_ok Bid 16 1 qs f), best_ok Offer _ (lasts_ok Offer 16 1 qs f))

pub refused_passes : (n : ℕ) → Passes (refused n)
refused_passes n = (silent_ok Bid, silent_ok Bid)

pub found_passes : (s : List ℕ) (t : ℕ) → Passes (found_of s t)
unfolding found_of
found_passes s t =
    either Passes (eqb (quotes_refusal_of s t) 0) _ _
    (λ e. in_ok _ (fit_earlier t (posted_in s) (fit_from s _ 0 (all_ok_lem s t (eqb-true (quotes_refusal_of s t) 0 e)))))
    (λ e. refused_passes (quotes_refusal_of s t))
