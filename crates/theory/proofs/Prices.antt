-- TP is the quote's price or the official's, whichever comes first, with its origin, and so within any bound of the market's prices.
use Prim.Native.Nat.{ℕ, ◌≤◌}
use mathlib.Core.Path.{◌≡◌, refl, sym, ap, ◌∙◌}
use mathlib.Core.Bool.{Bool, true, false}
use borrow.Author.Tests.{leb-true}
use Rattle.wire.specs.Tests.{pick}
use Rattle.facts.specs.Numbers.{price_number}
use Rattle.theory.specs.Words.{Contracts, Price, Some, None, Side, Buy, Sell, Form, Market, Source}
use Rattle.theory.specs.Theory.{quote_for, official_source, source_of, too_wide, trusted_price, theory_of, theory_price, theory_number, or_else, theory_origin, origin_among, up_to}

source_price : (p : Price) (size : Contracts) (official : Price) → theory_price (source_of p size official) ≡ or_else p official
source_price (Some p) size official = refl
source_price None size (Some p) = refl
source_price None size None = refl

source_origin : (p : Price) (size : Contracts) (official : Price) → theory_origin (source_of p size official) ≡ origin_among p official
source_origin (Some p) size (Some q) = refl
source_origin (Some p) size None = refl
source_origin None size (Some p) = refl
source_origin None size None = refl

or_else_up_to : (k : ℕ) (p q : Price) → up_to k p ≡ true → up_to k q ≡ true → up_to k (or_else p q) ≡ true
or_else_up_to k (Some m) q hp hq = hp
or_else_up_to k None q hp hq = hq

quote_up_to : (k : ℕ) (side : Side) (m : Market) → up_to k m.bid.price ≡ true → up_to k m.offer.price ≡ true
    → up_to k (quote_for side m).price ≡ true
quote_up_to k Buy m hb ho = ho
quote_up_to k Sell m hb ho = hb

-- a price that is trusted is within its bound, and so is none
trusted_up_to : (k : ℕ) (b : Bool) (p : Price) → up_to k p ≡ true → up_to k (pick b None p) ≡ true
trusted_up_to k true p h = refl
trusted_up_to k false p h = h

module _ (form : Form) (side : Side) (m : Market) where
  abbrev quoted : Price
  quoted = trusted_price form side m

  theory_price_lem : theory_price (theory_of form side m) ≡ or_else quoted m.official
  unfolding theory_of
  theory_price_lem = source_price quoted _ m.official

  -- TP's number is that of the first price there is, or the mark none
  pub theory_number_lem : theory_number (theory_of form side m) ≡ price_number (or_else (trusted_price form side m) m.official)
  theory_number_lem = ap price_number theory_price_lem

  -- and its origin is 1, 2 or 0 by which price that is
  pub theory_origin_lem : theory_origin (theory_of form side m) ≡ origin_among (trusted_price form side m) m.official
  unfolding theory_of
  theory_origin_lem = source_origin quoted _ m.official

  -- a TP found among prices of at most k is at most k
  pub theory_priced : (k : ℕ) (s : Source) → up_to k m.bid.price ≡ true → up_to k m.offer.price ≡ true → up_to k m.official ≡ true
      → theory_of form side m ≡ Some s → s.price.0 ≤ k
  theory_priced k s hb ho hf e =
      let p = or_else_up_to k quoted m.official (trusted_up_to k (too_wide form m) (quote_for side m).price (quote_up_to k side m hb ho)) hf in
      leb-true s.price.0 k (ap (up_to k) (ap theory_price (sym e) ∙ theory_price_lem) ∙ p)

  -- ---- by the width of the quotes

  -- quotes too wide have no say: TP is the official's, or there is none
  pub theory_wide : too_wide form m ≡ true → theory_of form side m ≡ official_source m.official
  unfolding theory_of
  theory_wide h = simp h

  -- others are looked at as ever
  pub theory_trusted : too_wide form m ≡ false → theory_of form side m ≡ source_of (quote_for side m).price (quote_for side m).size m.official
  unfolding theory_of
  theory_trusted h = simp h
