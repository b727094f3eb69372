-- What a case says after its bytes 20 to 35 are filled: the quotes that were found, and all else as before.
use Prim.Native.Nat.{ℕ, zero, suc, ◌+◌, ◌≤◌, ◌<◌}
use mathlib.Core.Path.{◌≡◌, refl, sym, ap, ap₂, ◌∙◌}
use mathlib.Core.Bool.{true}
use mathlib.Core.Logic.{◌⊎◌, inl, inr, ⊎_elim}
use mathlib.Core.List.{List, ◌∷◌}
use native.Mathlib.Omega.{arith}
use lib.Dec.{leb, lit≤}
use lib.ListN.{length, get_or}
use Rattle.wire.specs.Numbers.{joined, bytes, elements_from, elements, number_at, stored}
use Rattle.wire.proofs.Numbers.{joined_bytes}
use Rattle.wire.proofs.Tests.{both_true, none_fails}
use Rattle.facts.specs.Numbers.{contracts, price_number}
use Rattle.forms.specs.Heads.{is_length}
use Rattle.forms.specs.Forms.{form_of}
use Rattle.forms.proofs.Heads.{has_88}
use Rattle.record.specs.Record.{trade_of, market_of, request_of, party_at, settlement_of, facts_of}
use Rattle.refusals.specs.Tests.{price_ok, quote_ok, head_ok, zeros_ok, lists_ok, codes_ok, quotes_priced, prices_ok, counts_ok, times_ok, limits_ok, agreement_ok, fault_of}
use Rattle.cases.specs.Cases.{refusal_of, Formed}
use Rattle.cases.proofs.Laws.{formed, well_formed, passed_form, passed_facts, facts_decide}
use Rattle.round_trips.proofs.Again.{price_fits, price_again, size_fits, sound}
use Rattle.quotes.specs.Quotes.{side_ok}
use Rattle.filling.specs.Words.{Quote, Facts}
use Rattle.filling.specs.Filling.{quoted, filled}
use Rattle.lookups.proofs.Stretches.{outside, elements_outside, elements_stored, length_stored, stored_same}

-- the four stretches stored where they stand already
kept_as_is : (o : List ℕ) (bid offer : Quote) → elements 4 o 20 ≡ bytes 4 (price_number bid.price) → elements 4 o 24 ≡ bytes 4 (price_number offer.price)
    → elements 4 o 28 ≡ bytes 4 bid.size.0 → elements 4 o 32 ≡ bytes 4 offer.size.0 → filled o bid offer ≡ o
unfolding filled
kept_as_is o bid offer x y z w =
    rw (
      stored_same (bytes 4 (price_number bid.price)) o 20 0 x,
      stored_same (bytes 4 (price_number offer.price)) o 24 0 y,
      stored_same (bytes 4 bid.size.0) o 28 0 z,
      stored_same (bytes 4 offer.size.0) o 32 0 w,
    )

module _ (s : List ℕ) (bid offer : Quote) where
  -- the four stretches, and the list after each
  abbrev b1 : List ℕ
  b1 = bytes 4 (price_number bid.price)

  abbrev b2 : List ℕ
  b2 = bytes 4 (price_number offer.price)

  abbrev b3 : List ℕ
  b3 = bytes 4 bid.size.0

  abbrev b4 : List ℕ
  b4 = bytes 4 offer.size.0

  abbrev s1 : List ℕ
  s1 = stored s 20 b1

  abbrev s2 : List ℕ
  s2 = stored s1 24 b2

  abbrev s3 : List ℕ
  s3 = stored s2 28 b3

  l1 : length s1 ≡ length s
  l1 = length_stored b1 s 20 0

  l2 : length s2 ≡ length s
  l2 = length_stored b2 s1 24 0 ∙ l1

  l3 : length s3 ≡ length s
  l3 = length_stored b3 s2 28 0 ∙ l2

  pub filled_length : length (filled s bid offer) ≡ length s
  unfolding filled
  filled_length = length_stored b4 s3 32 0 ∙ l3

  -- every other byte stays
  pub filled_outside : (j : ℕ) → (j < 20) ⊎ (36 ≤ j) → get_or (filled s bid offer) j 0 ≡ get_or s j 0
  unfolding filled
  filled_outside j h =
      outside b4 s3 32 0 j (⊎_elim (λ l. inl (omega arith)) (λ l. inr (omega arith)) h)
      ∙ outside b3 s2 28 0 j (⊎_elim (λ l. inl (omega arith)) (λ l. inr (omega arith)) h)
      ∙ outside b2 s1 24 0 j (⊎_elim (λ l. inl (omega arith)) (λ l. inr (omega arith)) h)
      ∙ outside b1 s 20 0 j (⊎_elim (λ l. inl (omega arith)) (λ l. inr (omega arith)) h)

  elements_kept : (w i k : ℕ) → (i + k + w ≤ 20) ⊎ (36 ≤ i + k) → elements_from w (filled s bid offer) i k ≡ elements_from w s i k
  elements_kept zero i k h = refl
  elements_kept (suc w) i k h =
      ap₂ ◌∷◌ (filled_outside (i + k) (⊎_elim (λ l. inl (omega arith)) (λ l. inr (omega arith)) h))
      (elements_kept w i (suc k) (⊎_elim (λ l. inl (omega arith)) (λ l. inr (omega arith)) h))

  low : (w i : ℕ) → i + w ≤ 20 → number_at w (filled s bid offer) i ≡ number_at w s i
  unfolding number_at
  low w i h = ap joined (elements_kept w i 0 (inl (omega arith)))

  high : (w i : ℕ) → 36 ≤ i → number_at w (filled s bid offer) i ≡ number_at w s i
  unfolding number_at
  high w i h = ap joined (elements_kept w i 0 (inr (omega arith)))

  high_byte : (i : ℕ) → 36 ≤ i → get_or (filled s bid offer) i 0 ≡ get_or s i 0
  high_byte i h = filled_outside i (inr h)

  form_kept : form_of (filled s bid offer) ≡ form_of s
  unfolding form_of
  form_kept = rw (filled_length, high 4 88 (lit≤ tt))

  trade_kept : trade_of (filled s bid offer) ≡ trade_of s
  unfolding trade_of
  trade_kept = cc (low 4 4 (lit≤ tt), low 4 8 (lit≤ tt), low 4 12 (lit≤ tt), low 4 16 (lit≤ tt))

  request_kept : request_of (filled s bid offer) ≡ request_of s
  unfolding request_of
  request_kept =
      cc
      (high_byte 44 (lit≤ tt), high_byte 45 (lit≤ tt), high_byte 46 (lit≤ tt), high_byte 47 (lit≤ tt), high_byte 66 (lit≤ tt), high 4 72 (lit≤ tt))

  party_kept : (at kind : ℕ) → 36 ≤ at → 36 ≤ kind → party_at (filled s bid offer) at kind ≡ party_at s at kind
  unfolding party_at
  party_kept at kind h k = cc (elements_kept 4 at 0 (inr (omega arith)), high 4 (at + 4) (omega arith), high_byte kind k)

  settlement_kept : settlement_of (filled s bid offer) ≡ settlement_of s
  unfolding settlement_of
  settlement_kept = cc (high_byte 67 (lit≤ tt), high 4 68 (lit≤ tt), high 4 76 (lit≤ tt), high 4 80 (lit≤ tt))

  -- it has the form of a case where it had it before
  formed_kept : Formed s → Formed (filled s bid offer)
  unfolding head_ok zeros_ok lists_ok
  formed_kept f =
      record {
        whole = ap is_length filled_length ∙ f.whole;
        head = rw (low 2 0 (lit≤ tt), low 2 2 (lit≤ tt), filled_length) f.head;
        zeros = rw (high 4 36 (lit≤ tt), high 4 84 (lit≤ tt)) f.zeros;
        lists =
            rw (
              high_byte 44 (lit≤ tt),
              high_byte 45 (lit≤ tt),
              high_byte 46 (lit≤ tt),
              high_byte 47 (lit≤ tt),
              high_byte 64 (lit≤ tt),
              high_byte 65 (lit≤ tt),
              high_byte 66 (lit≤ tt),
              high_byte 67 (lit≤ tt),
            )
            f.lists;
      }

  -- the four stretches stand in their places
  module _ (h : 36 ≤ length s) where
    at20 : elements 4 (filled s bid offer) 20 ≡ b1
    unfolding filled
    at20 =
        elements_outside 4 32 b4 s3 20 0 (inl (lit≤ tt)) ∙ elements_outside 4 28 b3 s2 20 0 (inl (lit≤ tt)) ∙ elements_outside 4 24 b2 s1 20 0 (inl (lit≤ tt))
        ∙ elements_stored b1 s 20 0 (omega arith)

    at24 : elements 4 (filled s bid offer) 24 ≡ b2
    unfolding filled
    at24 = elements_outside 4 32 b4 s3 24 0 (inl (lit≤ tt)) ∙ elements_outside 4 28 b3 s2 24 0 (inl (lit≤ tt)) ∙ elements_stored b2 s1 24 0 (omega (arith, l1))

    at28 : elements 4 (filled s bid offer) 28 ≡ b3
    unfolding filled
    at28 = elements_outside 4 32 b4 s3 28 0 (inl (lit≤ tt)) ∙ elements_stored b3 s2 28 0 (omega (arith, l2))

    at32 : elements 4 (filled s bid offer) 32 ≡ b4
    unfolding filled
    at32 = elements_stored b4 s3 32 0 (omega (arith, l3))

    number_there : (i n : ℕ) → elements 4 (filled s bid offer) i ≡ bytes 4 n → n < 4294967296 → number_at 4 (filled s bid offer) i ≡ n
    unfolding number_at
    number_there i n e l = ap joined e ∙ joined_bytes 4 n l

    -- the market is what was found, with the official's price as it was
    market_filled : side_ok bid ≡ true → side_ok offer ≡ true
        → market_of (filled s bid offer) ≡ record { bid = bid; offer = offer; official = (market_of s).official }
    unfolding market_of side_ok
    market_filled x y =
        let bx = both_true (price_ok bid.price) _ x in
        let oy = both_true (price_ok offer.price) _ y in
        let n20 = number_there 20 (price_number bid.price) at20 (price_fits bid.price bx.0) in
        let n24 = number_there 24 (price_number offer.price) at24 (price_fits offer.price oy.0) in
        let n28 = number_there 28 bid.size.0 at28 (size_fits bid.price bid.size bx.1) in
        let n32 = number_there 32 offer.size.0 at32 (size_fits offer.price offer.size oy.1) in
        rw (n20, n24, n28, n32, high 4 40 (lit≤ tt), price_again bid.price bx.0, price_again offer.price oy.0)

    -- the facts are the old ones with these quotes
    pub facts_filled : side_ok bid ≡ true → side_ok offer ≡ true → facts_of (filled s bid offer) ≡ quoted (facts_of s) bid offer
    unfolding facts_of
    facts_filled x y =
        rw (form_kept, trade_kept, market_filled x y, request_kept, party_kept 48 64 (lit≤ tt) (lit≤ tt), party_kept 56 65 (lit≤ tt) (lit≤ tt), settlement_kept)

    -- filled once more with the same it stays as it is
    pub filled_again : filled (filled s bid offer) bid offer ≡ filled s bid offer
    filled_again = kept_as_is (filled s bid offer) bid offer at20 at24 at28 at32

-- ---- facts that pass the tests pass them with quotes that do
quoted_passes : (f : Facts) (bid offer : Quote) → fault_of f ≡ 0 → side_ok bid ≡ true → side_ok offer ≡ true → fault_of (quoted f bid offer) ≡ 0
unfolding fault_of prices_ok quotes_priced counts_ok side_ok
quoted_passes f bid offer e x y =
    let t4 = none_fails (codes_ok f.buyer f.seller) 4 _ tt e in
    let t5 = none_fails (prices_ok f) 5 _ tt t4.1 in
    let t6 = none_fails (counts_ok f.trade f.market) 6 _ tt t5.1 in
    let t7 = none_fails (times_ok f.trade f.request f.settlement) 7 _ tt t6.1 in
    let t8 = none_fails (limits_ok f.trade f.buyer f.seller) 8 _ tt t7.1 in
    let t9 = none_fails (agreement_ok f.settlement.agreement f.settlement.agreed f.settlement.made) 9 _ tt t8.1 in
    let o = sound f e in
    let c1 = both_true _ (quote_ok f.market.offer.price f.market.offer.size) t6.0 in
    let c2 = both_true _ (quote_ok f.market.bid.price f.market.bid.size) c1.0 in
    let c3 = both_true (leb 1 f.trade.contracts.0) (leb f.trade.contracts.0 1000000) c2.0 in
    let bx = both_true (price_ok bid.price) _ x in
    let oy = both_true (price_ok offer.price) _ y in
    simp (t4.0, o.price, bx.0, oy.0, o.official, o.highest, o.lowest, o.agreed, o.differential, c3.0, c3.1, bx.1, oy.1, t7.0, t8.0, t9.0)

-- An accepted case, filled with quotes that pass: accepted, and the facts are the old ones with these quotes.
pub filled_accepted : (s : List ℕ) (bid offer : Quote) → refusal_of s ≡ 0 → side_ok bid ≡ true → side_ok offer ≡ true
    → (refusal_of (filled s bid offer) ≡ 0) × (facts_of (filled s bid offer) ≡ quoted (facts_of s) bid offer)
filled_accepted s bid offer good x y =
    let form = formed s (passed_form s good) in
    let facts = facts_filled s bid offer (omega (arith, has_88 (length s) form.whole)) x y in
    let passed = quoted_passes (facts_of s) bid offer (passed_facts s good) x y in
    (sym (facts_decide (filled s bid offer) 0 (quoted (facts_of s) bid offer) (well_formed (filled s bid offer) (formed_kept s bid offer form)) (sym facts) (sym passed)), facts)
