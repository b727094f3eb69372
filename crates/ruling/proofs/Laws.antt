-- The laws of a ruling, each an instance of the one walk. Our table is sound (`bands_sound`); nothing else is asked of it.
use Prim.Native.Nat.{ℕ, ◌≤◌}
use mathlib.Core.Path.{◌≡◌, refl}
use mathlib.Core.Bool.{Bool, true, false}
use mathlib.Core.Logic.{⊎_elim}
use native.Mathlib.Omega.{arith}
use lib.Dec.{ltb}
use borrow.Author.Tests.{ltb-true, leb-true}
use Rattle.wire.specs.Tests.{pick, in_range}
use Rattle.wire.proofs.Tests.{range_ends}
use Rattle.bands.specs.Amounts.{largest}
use Rattle.bands.proofs.Sound.{bands_sound}
use Rattle.parties.specs.Parties.{any_customer}
use Rattle.theory.specs.Theory.{up_to}
use Rattle.theory.proofs.Prices.{theory_priced}
use Rattle.agreement.specs.Agreed.{in_time, may_nullify, terms_of, heeded_of, accepted_in_time}
use Rattle.act.proofs.Priced.{act_between, act_priced}
use Rattle.ruling.specs.Words.{Mills, Contracts, Price, Some, None, Agreement, NotMade, OnPrice, ToNullify, Facts, Way, Obvious, Opening, Catastrophic, Origin, Quoted, Official, Source, Ignored, Repriced}
use Rattle.ruling.specs.Counts.{covered_by, covered}
use Rattle.ruling.specs.Ruling.{ruling_of}
use Rattle.ruling.specs.Laws.{LiesBetween, SumsTo, PricedUpTo}
use Rattle.ruling.proofs.Walk.{Grounds, each_ruling, heeded_at}

-- ---- contracts
lesser : (size n : Contracts) → (covered_by (Quoted size) n).0 ≤ n.0
lesser size n = by_test (ltb size.0 n.0) refl where
  by_test : (b : Bool) → ltb size.0 n.0 ≡ b → (pick b size n).0 ≤ n.0
  by_test true e = omega (arith, ltb-true size.0 n.0 e)
  by_test false e = omega arith

covered_within : (way : Way) (origin : Origin) (n : Contracts) → (covered way origin n).0 ≤ n.0
covered_within Obvious origin n = omega arith
covered_within Opening (Quoted size) n = lesser size n
covered_within Opening Official n = omega arith
covered_within Catastrophic origin n = omega arith

-- adjusted, nullified and standing sum to the contracts traded
pub sums : (f : Facts) → SumsTo f.trade.contracts.0 (ruling_of f)
sums f =
    each_ruling f (SumsTo f.trade.contracts.0) (λ r h. omega arith) (λ e. omega arith) (λ s r e h n. omega arith) (λ s r e h. omega arith)
    (λ way s r p g. omega (arith, covered_within way s.origin f.trade.contracts))

-- ---- prices

-- 10 is not one of the reasons 6 to 9
not_ten : (r : ℕ) → r ≡ 10 → in_range 6 9 r ≡ true → ⊥
not_ten r e h = let k = range_ends 6 9 r h in omega arith

-- a price set for the reasons 6 to 9 lies between TP and execution
pub lies_between : (f : Facts) → f.trade.price.0 ≤ largest → LiesBetween f.trade.price (ruling_of f)
lies_between f l =
    each_ruling f (LiesBetween f.trade.price) (λ r h k. tt) (λ e k. tt) (λ s r e h n k. tt) (λ s r e h k. tt)
    (λ way s r p g k.
    ⊎_elim (λ c. absurd (not_ten r c.0 k))
    (λ c. rw c.1 at (act_between bands_sound way f.request.side f.buyer f.seller (accepted_in_time f.settlement.accepted) f.trade.price s.price g.error l))
    g.cause)

-- an agreed price that is heeded is the settlement's
agreed_on : (a : Agreement) (x : Price) (b : Bool) (p : Mills) → terms_of a x b ≡ Repriced p → x ≡ Some p
agreed_on NotMade x b p e = cc
agreed_on OnPrice (Some q) b p e = cc
agreed_on OnPrice None b p e = cc
agreed_on ToNullify x true p e = cc
agreed_on ToNullify x false p e = cc

pub heeded_price : (f : Facts) (way : Way) (p : Mills) → heeded_at f way ≡ Repriced p → f.settlement.agreed ≡ Some p
unfolding heeded_of
heeded_price f way p e = by_test (in_time f.settlement.made customer) e where
  customer : Bool
  customer = any_customer f.buyer.kind f.seller.kind

  by_test : (b : Bool) → pick b (terms_of f.settlement.agreement f.settlement.agreed (may_nullify way customer)) Ignored ≡ Repriced p → f.settlement.agreed ≡ Some p
  by_test true h = agreed_on f.settlement.agreement f.settlement.agreed (may_nullify way customer) p h
  by_test false h = cc

-- no price leaves the range of prices: where the prices of the facts are at most `top`, so is the new one
module _ (f : Facts) (top : ℕ) (execution : f.trade.price.0 ≤ top) (bid : up_to top f.market.bid.price ≡ true)
    (offer : up_to top f.market.offer.price ≡ true) (official : up_to top f.market.official ≡ true)
    (agreed : up_to top f.settlement.agreed ≡ true) where
  priced : (way : Way) (s : Source) (r : ℕ) (p : Mills) → Grounds f way s r p → p.0 ≤ top
  priced way s r p g =
      ⊎_elim
      (λ c. leb-true p.0 top (rw (heeded_price f way p c.1) at agreed))
      (λ c.
      rw c.1 at (act_priced bands_sound way f.request.side f.buyer f.seller (accepted_in_time f.settlement.accepted) f.trade.price s.price
      g.error top (theory_priced f.form f.request.side f.market top s bid offer official g.found) execution))
      g.cause

  pub stays_priced : PricedUpTo top (ruling_of f)
  stays_priced = each_ruling f (PricedUpTo top) (λ r h. tt) (λ e. tt) (λ s r e h n. tt) (λ s r e h. tt) priced
