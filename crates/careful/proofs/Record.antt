-- The prices that the cautions tell are those of the facts that a ruling goes by: each caution has the place of its own price in the record.
use Rattle.std.specs.Prelude.{Some}
use Prim.Native.Nat.{ℕ}
use mathlib.Core.Path.{◌≡◌, sym, ap}
use mathlib.Core.List.{List}
use native.Mathlib.Omega.{arith}
use borrow.Author.Tests.{leb-true, ne_eqb}
use Rattle.wire.specs.Numbers.{number_at}
use Rattle.facts.specs.Words.{Price}
use Rattle.facts.specs.Numbers.{mills, price_of}
use Rattle.record.specs.Record.{trade_of, market_of, party_at, facts_of}
use Rattle.careful.specs.Words.{Warning, Caution, Some}
use Rattle.careful.specs.Careful.{caution_at, cautions_in}
use Rattle.careful.proofs.Laws.{told_truly}

-- what stands at a place that a caution tells is a price, and no none
price_there : (s : List ℕ) (i : ℕ) (w : Warning) → caution_at s i ≡ Some w → price_of (number_at 4 s i) ≡ Some w.stands
unfolding price_of
price_there s i w e =
    let t = told_truly s i w e in
    let n = number_at 4 s i in
    let small = leb-true w.stands.0 9999999 t.price in
    let other : n ≡ 4294967295 → ⊥ = λ h. omega (arith, t.stands) in
    simp (ne_eqb n 4294967295 other) (ap (λ (k : ℕ). Some (mills k)) (sym t.stands))

-- A caution is of this price of the facts.
abbrev Of : List ℕ → Caution → Price → Type 0
Of s c p = (w : Warning) → c ≡ Some w → (p ≡ Some w.stands) × ((facts_of s).trade.price ≡ w.execution)

module _ (s : List ℕ) where
  of_place : (i : ℕ) → Of s (caution_at s i) (price_of (number_at 4 s i))
  unfolding facts_of trade_of
  of_place i w e = (price_there s i w e, ap mills (sym (told_truly s i w e).execution))

  pub bid_told : Of s (cautions_in s).bid (facts_of s).market.bid.price
  unfolding cautions_in facts_of market_of
  bid_told = of_place 20

  pub offer_told : Of s (cautions_in s).offer (facts_of s).market.offer.price
  unfolding cautions_in facts_of market_of
  offer_told = of_place 24

  pub official_told : Of s (cautions_in s).official (facts_of s).market.official
  unfolding cautions_in facts_of market_of
  official_told = of_place 40

  pub buyer_told : Of s (cautions_in s).buyer (facts_of s).buyer.limit
  unfolding cautions_in facts_of party_at
  buyer_told = of_place 52

  pub seller_told : Of s (cautions_in s).seller (facts_of s).seller.limit
  unfolding cautions_in facts_of party_at
  seller_told = of_place 60
