-- Facts that pass the tests come back from their bytes.
use Prim.Native.Nat.{ℕ, ◌+◌, ◌<◌}
use mathlib.Core.Path.{◌≡◌, refl, ap, ◌∙◌}
use mathlib.Core.Bool.{true, ◌||◌}
use mathlib.Core.List.{List, [], ◌∷◌}
use native.Mathlib.Omega.{arith}
use native.Mathlib.Nat.{lt_of_le_of_lt}
use lib.ListN.{length, get_or}
use lib.Dec.{T, leb, ltb, eqb, lit<}
use borrow.Author.Tests.{leb-true, ne_eqb, eqb-true, eqb-false}
use Rattle.wire.specs.Numbers.{joined, bytes, elements, number_at}
use Rattle.wire.specs.Tests.{in_range}
use Rattle.wire.proofs.Numbers.{joined_bytes}
use Rattle.wire.proofs.Tests.{both_true, none_fails}
use Rattle.facts.specs.Numbers.{mills, price_of, price_number, moment_of, moment_number}
use Rattle.forms.specs.Words.{Form, One, Two}
use Rattle.forms.specs.Forms.{differential_of, form_of}
use Rattle.codes.specs.Codes.{side_of, kind_of, day_of, agreement_of, flag_of}
use Rattle.codes.proofs.Codes.{side_again, kind_again, day_again, agreement_again, flag_again}
use Rattle.record.specs.Record.{trade_of, market_of, request_of, party_at, settlement_of, facts_of, bytes_as, record_bytes}
use Rattle.refusals.specs.Tests.{mills_ok, price_ok, differential_ok, moment_ok, quote_ok, codes_ok, quotes_priced, prices_ok, counts_ok, times_ok, filed_ok, fault_of}
use Rattle.refusals.specs.Words.{Contracts, Price, Some, None, Moment, Party, Trade, Market, Request, Settlement, Facts}
use Rattle.cases.specs.Cases.{Held}

-- ---- what a test says of the number that stands for a field
below : (n k : ℕ) → leb n k ≡ true → T (ltb k 4294967296) → n < 4294967296
below n k h t = lt_of_le_of_lt (leb-true n k h) (lit< t)

pub price_fits : (p : Price) → price_ok p ≡ true → price_number p < 4294967296
price_fits (Some m) h = below m.0 9999999 h tt
price_fits None h = lit< tt

pub price_again : (p : Price) → price_ok p ≡ true → price_of (price_number p) ≡ p
unfolding price_of
price_again (Some m) h = simp (ne_eqb m.0 4294967295 (λ e. omega (arith, leb-true m.0 9999999 h)))
price_again None h = refl

moment_fits : (m : Moment) → moment_ok m ≡ true → moment_number m < 4294967296
moment_fits (Some t) h = below t.0 86400 h tt
moment_fits None h = lit< tt

moment_again : (m : Moment) → moment_ok m ≡ true → moment_of (moment_number m) ≡ m
unfolding moment_of
moment_again (Some t) h = simp (ne_eqb t.0 4294967295 (λ e. omega (arith, leb-true t.0 86400 h)))
moment_again None h = refl

pub size_fits : (p : Price) (n : Contracts) → quote_ok p n ≡ true → n.0 < 4294967296
size_fits (Some m) n h = below n.0 1000000 (both_true (leb n.0 1000000) (eqb m.0 0 || leb 1 n.0) h).0 tt
size_fits None n h = omega (arith, eqb-true n.0 0 h)

-- ---- facts that pass the tests 4 to 9, field by field
pub record Sound (f : Facts) : Type 0 where
  pub price : mills_ok f.trade.price ≡ true
  pub bid : price_ok f.market.bid.price ≡ true
  pub offer : price_ok f.market.offer.price ≡ true
  pub official : price_ok f.market.official ≡ true
  pub highest : price_ok f.buyer.limit ≡ true
  pub lowest : price_ok f.seller.limit ≡ true
  pub agreed : price_ok f.settlement.agreed ≡ true
  pub differential : differential_ok (differential_of f.form) ≡ true
  pub contracts : leb f.trade.contracts.0 1000000 ≡ true
  pub bids : quote_ok f.market.bid.price f.market.bid.size ≡ true
  pub offers : quote_ok f.market.offer.price f.market.offer.size ≡ true
  pub executed : leb f.trade.executed.0 86399 ≡ true
  pub filed : leb f.request.filed.0 86399 ≡ true
  pub made : leb f.settlement.made.0 86400 ≡ true
  pub accepted : moment_ok f.settlement.accepted ≡ true

pub sound : (f : Facts) → fault_of f ≡ 0 → Sound f
unfolding fault_of prices_ok quotes_priced counts_ok times_ok
sound f e =
    let t4 = none_fails (codes_ok f.buyer f.seller) 4 _ tt e in
    let t5 = none_fails (prices_ok f) 5 _ tt t4.1 in
    let t6 = none_fails (counts_ok f.trade f.market) 6 _ tt t5.1 in
    let t7 = none_fails (times_ok f.trade f.request f.settlement) 7 _ tt t6.1 in
    let p0 = both_true _ (differential_ok (differential_of f.form)) t5.0 in
    let p1 = both_true _ (price_ok f.settlement.agreed) p0.0 in
    let p2 = both_true _ (price_ok f.seller.limit) p1.0 in
    let p3 = both_true _ (price_ok f.buyer.limit) p2.0 in
    let p4 = both_true (mills_ok f.trade.price) _ p3.0 in
    let q1 = both_true _ (price_ok f.market.official) p4.1 in
    let q2 = both_true (price_ok f.market.bid.price) (price_ok f.market.offer.price) q1.0 in
    let c1 = both_true _ (quote_ok f.market.offer.price f.market.offer.size) t6.0 in
    let c2 = both_true _ (quote_ok f.market.bid.price f.market.bid.size) c1.0 in
    let c3 = both_true (leb 1 f.trade.contracts.0) (leb f.trade.contracts.0 1000000) c2.0 in
    let s1 = both_true _ (filed_ok f.request.day f.trade.executed f.request.filed) t7.0 in
    let s2 = both_true _ (moment_ok f.settlement.accepted) s1.0 in
    let s3 = both_true _ (leb f.settlement.made.0 86400) s2.0 in
    let s4 = both_true (leb f.trade.executed.0 86399) (leb f.request.filed.0 86399) s3.0 in
    record {
      price = p4.0;
      bid = q2.0;
      offer = q2.1;
      official = q1.1;
      highest = p3.1;
      lowest = p2.1;
      agreed = p1.1;
      differential = p0.1;
      contracts = c3.1;
      bids = c2.1;
      offers = c1.1;
      executed = s4.0;
      filed = s4.1;
      made = s3.1;
      accepted = s2.1;
    }

-- ---- a group, from any bytes that say its fields
module _ (s : List ℕ) where
  trade_from : (t : Trade) → number_at 4 s 4 ≡ t.number → number_at 4 s 8 ≡ t.price.0 → number_at 4 s 12 ≡ t.contracts.0 → number_at 4 s 16 ≡ t.executed.0
      → trade_of s ≡ t
  unfolding trade_of
  trade_from t a b c d = simp (a, b, c, d)

  market_from : (m : Market) → price_of (number_at 4 s 20) ≡ m.bid.price → price_of (number_at 4 s 24) ≡ m.offer.price → number_at 4 s 28 ≡ m.bid.size.0
      → number_at 4 s 32 ≡ m.offer.size.0 → price_of (number_at 4 s 40) ≡ m.official → market_of s ≡ m
  unfolding market_of
  market_from m a b c d e = simp (a, b, c, d, e)

  request_from : (r : Request) → side_of (get_or s 44 0) ≡ r.side → flag_of (get_or s 45 0) ≡ r.opening → flag_of (get_or s 46 0) ≡ r.expiry
      → flag_of (get_or s 47 0) ≡ r.decided → day_of (get_or s 66 0) ≡ r.day → number_at 4 s 72 ≡ r.filed.0 → request_of s ≡ r
  unfolding request_of
  request_from r a b c d e g = simp (a, b, c, d, e, g)

  party_from : (at kind : ℕ) (p : Party) → elements 4 s at ≡ p.code → price_of (number_at 4 s (at + 4)) ≡ p.limit → kind_of (get_or s kind 0) ≡ p.kind
      → party_at s at kind ≡ p
  unfolding party_at
  party_from at kind p a b c = simp (a, b, c)

  settlement_from : (t : Settlement) → agreement_of (get_or s 67 0) ≡ t.agreement → price_of (number_at 4 s 68) ≡ t.agreed → number_at 4 s 76 ≡ t.made.0
      → moment_of (number_at 4 s 80) ≡ t.accepted → settlement_of s ≡ t
  unfolding settlement_of
  settlement_from t a b c d = simp (a, b, c, d)

  facts_from : (f : Facts) → form_of s ≡ f.form → trade_of s ≡ f.trade → market_of s ≡ f.market → request_of s ≡ f.request → party_at s 48 64 ≡ f.buyer
      → party_at s 56 65 ≡ f.seller → settlement_of s ≡ f.settlement → facts_of s ≡ f
  unfolding facts_of
  facts_from f z a b c d e g = simp (z, a, b, c, d, e, g)

-- a code of four bytes, byte by byte
four : (c : List ℕ) → length c ≡ 4 → elements 4 c 0 ≡ c
four (a ∷ b ∷ c ∷ d ∷ []) h = refl
four [] h = absurd (eqb-false 0 4 refl h)
four (a ∷ []) h = absurd (eqb-false 1 4 refl h)
four (a ∷ b ∷ []) h = absurd (eqb-false 2 4 refl h)
four (a ∷ b ∷ c ∷ []) h = absurd (eqb-false 3 4 refl h)
four (a ∷ b ∷ c ∷ d ∷ e ∷ l) h = let z : ⊥ = omega arith in absurd z

-- ---- the bytes that are written, read at each place
number : (n : ℕ) → n < 4294967296 → joined (bytes 4 n) ≡ n
number n h = joined_bytes 4 n h

price : (n : ℕ) (p : Price) → (price_number p < 4294967296 → n ≡ price_number p) → price_ok p ≡ true → price_of n ≡ p
price n p e h = ap price_of (e (price_fits p h)) ∙ price_again p h

form_again : (form : Form) (f : Facts) → differential_ok (differential_of form) ≡ true → form_of (bytes_as form f) ≡ form
unfolding form_of number_at in_range
form_again One f ok = refl
form_again (Two d) f ok = ap (λ (n : ℕ). Two (mills n)) (number d.0 (below d.0 9999999 (both_true (leb 1 d.0) (leb d.0 9999999) ok).1 tt))

module _ (f : Facts) (h : Held f) (z : Sound f) where
  trade_again : trade_of (record_bytes f) ≡ f.trade
  unfolding number_at
  trade_again =
      trade_from (record_bytes f) f.trade
      (number _ h.number)
      (number _ (below _ 9999999 z.price tt))
      (number _ (below _ 1000000 z.contracts tt))
      (number _ (below _ 86399 z.executed tt))

  market_again : market_of (record_bytes f) ≡ f.market
  unfolding number_at
  market_again =
      market_from (record_bytes f) f.market
      (price _ f.market.bid.price (number _) z.bid)
      (price _ f.market.offer.price (number _) z.offer)
      (number _ (size_fits f.market.bid.price f.market.bid.size z.bids))
      (number _ (size_fits f.market.offer.price f.market.offer.size z.offers))
      (price _ f.market.official (number _) z.official)

  request_again : request_of (record_bytes f) ≡ f.request
  unfolding number_at
  request_again =
      request_from (record_bytes f) f.request
      (side_again f.request.side)
      (flag_again f.request.opening)
      (flag_again f.request.expiry)
      (flag_again f.request.decided)
      (day_again f.request.day)
      (number _ (below _ 86399 z.filed tt))

  buyer_again : party_at (record_bytes f) 48 64 ≡ f.buyer
  unfolding number_at
  buyer_again =
      party_from (record_bytes f) 48 64 f.buyer (four f.buyer.code h.buyer)
      (price _ f.buyer.limit (number _) z.highest)
      (kind_again f.buyer.kind)

  seller_again : party_at (record_bytes f) 56 65 ≡ f.seller
  unfolding number_at
  seller_again =
      party_from (record_bytes f) 56 65 f.seller (four f.seller.code h.seller)
      (price _ f.seller.limit (number _) z.lowest)
      (kind_again f.seller.kind)

  settlement_again : settlement_of (record_bytes f) ≡ f.settlement
  unfolding number_at
  settlement_again =
      settlement_from (record_bytes f) f.settlement
      (agreement_again f.settlement.agreement)
      (price _ f.settlement.agreed (number _) z.agreed)
      (number _ (below _ 86400 z.made tt))
      (ap moment_of (number _ (moment_fits f.settlement.accepted z.accepted)) ∙ moment_again f.settlement.accepted z.accepted)

  pub facts_again : facts_of (record_bytes f) ≡ f
  facts_again = facts_from (record_bytes f) f (form_again f.form f z.differential) trade_again market_again request_again buyer_again seller_again settlement_again
