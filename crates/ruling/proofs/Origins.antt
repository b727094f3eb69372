-- The TP of a ruling is the one that its facts have, and there is none where it was not looked for: with its origin, in numbers, and by the reason.
use Prim.Native.Nat.{ℕ, ◌≤◌}
use mathlib.Core.Path.{◌≡◌, refl, sym, ap, ◌∙◌}
use mathlib.Core.Bool.{Bool, true, false, true≢false}
use mathlib.Core.Logic.{inl, inr, ⊎_elim}
use native.Mathlib.Omega.{arith}
use Rattle.wire.specs.Tests.{pick, in_range}
use Rattle.wire.proofs.Tests.{range_in, range_high, range_ends, each_listed}
use Rattle.facts.specs.Numbers.{price_number}
use Rattle.theory.specs.Theory.{quote_for, theory_of, theory_number, or_else, theory_origin, origin_among}
use Rattle.theory.proofs.Prices.{theory_number_lem, theory_origin_lem}
use Rattle.theory.proofs.Origins as theory
use Rattle.ruling.specs.Words.{Mills, Contracts, None, Facts, Way, Source, Theory, Some, Ruling}
use Rattle.ruling.specs.Ruling.{ruling_of}
use Rattle.ruling.specs.Numbers.{quote_in, theory_in, not_looked_for}
use Rattle.ruling.specs.Origins.{tp_of, origin_of, OfQuote, OfOfficial, Without, Exactly}
use Rattle.ruling.proofs.Walk.{Grounds, each_ruling}

-- an adjustment has one of the reasons 6 to 10
adjusting : (f : Facts) (way : Way) (s : Source) (r : ℕ) (p : Mills) → Grounds f way s r p → (6 ≤ r) × (r ≤ 10)
adjusting f way s r p g = ⊎_elim (λ c. (omega (arith, c.0), omega (arith, c.0))) (λ c. let k = range_ends 6 9 r c.0 in (k.0, omega arith)) g.cause

module _ (f : Facts) where
  abbrev Told : Ruling → Type 0
  Told r = r.tp ≡ pick (not_looked_for r.reason) None (theory_in f)

  pub tp_told : Told (ruling_of f)
  unfolding in_range
  tp_told =
      each_ruling f Told
      (λ r h. simp h)
      (λ e. sym e)
      (λ s r e h n. simp n (sym e))
      (λ s r e h. simp (range_high 2 3 r (let k = range_ends 11 13 r h in omega arith)) (sym e))
      (λ way s r p g. simp (range_high 2 3 r (let k = adjusting f way s r p g in omega arith)) (sym g.found))

  -- ---- in numbers
  abbrev shut : Bool
  shut = not_looked_for (ruling_of f).reason

  either_number : (number : Theory → ℕ) (b : Bool) (t : Theory) → number (pick b None t) ≡ pick b (number None) (number t)
  either_number number true t = refl
  either_number number false t = refl

  pub tp_number : theory_number (ruling_of f).tp ≡ pick (not_looked_for (ruling_of f).reason) (price_number None) (price_number (or_else (quote_in f) f.market.official))
  tp_number =
      ap theory_number tp_told ∙ either_number theory_number shut (theory_in f)
      ∙ ap (pick shut (price_number None)) (theory_number_lem f.form f.request.side f.market)

  pub tp_origin : theory_origin (ruling_of f).tp ≡ pick (not_looked_for (ruling_of f).reason) 0 (origin_among (quote_in f) f.market.official)
  tp_origin =
      ap theory_origin tp_told ∙ either_number theory_origin shut (theory_in f)
      ∙ ap (pick shut 0) (theory_origin_lem f.form f.request.side f.market)

  -- ---- each origin exactly
  abbrev size : Contracts
  size = (quote_for f.request.side f.market).size

  pub origin_none : Exactly (origin_of (ruling_of f) ≡ 0) (tp_of (ruling_of f) ≡ None)
  origin_none = (theory.none_priced (ruling_of f).tp, theory.unpriced (ruling_of f).tp)

  pub origin_quote : Exactly (origin_of (ruling_of f) ≡ 1) (OfQuote f (ruling_of f))
  unfolding theory_of
  origin_quote =
      rw tp_told
      (theory.one_quoted shut (quote_in f) size f.market.official, λ o. theory.quoted_one shut (quote_in f) size f.market.official o.0 o.1 o.2)

  pub origin_official : Exactly (origin_of (ruling_of f) ≡ 2) (OfOfficial f (ruling_of f))
  unfolding theory_of
  origin_official =
      rw tp_told (
        theory.two_official shut (quote_in f) size f.market.official,
        λ o. theory.official_two shut (quote_in f) size f.market.official o.0 o.1 o.2 o.3,
      )

  -- ---- and by the reason
  listed : (r : ℕ) → not_looked_for r ≡ true → Without r
  unfolding in_range
  listed r h = each_listed Without 1 2 (inl refl, inr (inl refl)) r h

  other : (r : ℕ) → (r ≡ 2 → ⊥) → (r ≡ 3 → ⊥) → (r ≡ 14 → ⊥) → Without r → ⊥
  other r a b c (inl e) = a e
  other r a b c (inr (inl e)) = b e
  other r a b c (inr (inr e)) = c e

  -- where there is a TP, neither
  told : (s : Source) (r : ℕ) → (Without r → ⊥) → Exactly (theory_origin (Some s) ≡ 0) (Without r)
  told s r never = (λ e. absurd (theory.found_numbered s e), λ w. absurd (never w))

  -- 2 and 3 are no reasons to leave a trade whose TP was found
  pub origin_reasons : Exactly (origin_of (ruling_of f) ≡ 0) (Without (ruling_of f).reason)
  origin_reasons =
      each_ruling f (λ (r : Ruling). Exactly (origin_of r ≡ 0) (Without r.reason))
      (λ r h. (λ e. listed r h, λ w. refl))
      (λ e. (λ z. inr (inr refl), λ w. refl))
      (λ s r e h n.
      let k = range_ends 1 5 r h in
      let out : (lo : 2 ≤ r) (hi : r ≤ 3) → ⊥ = λ lo hi. true≢false (sym (range_in 2 3 r lo (omega arith)) ∙ n) in
      told s r (other r (λ z. out (omega arith) (omega arith)) (λ z. out (omega arith) (omega arith)) (λ z. omega arith)))
      (λ s r e h. let k = range_ends 11 13 r h in told s r (other r (λ z. omega arith) (λ z. omega arith) (λ z. omega arith)))
      (λ way s r p g. let k = adjusting f way s r p g in told s r (other r (λ z. omega arith) (λ z. omega arith) (λ z. omega arith)))
