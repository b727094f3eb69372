-- A case of kind 2 in bytes: its facts written as those of kind 1, with their quotes or without, are accepted and get the same answer.
use Prim.Native.Nat.{ℕ}
use mathlib.Core.Path.{◌≡◌, refl, sym, ap, ◌∙◌}
use mathlib.Core.Bool.{Bool, true, false}
use mathlib.Core.List.{List}
use native.Mathlib.Omega.{arith}
use lib.Dec.{leb}
use borrow.Author.Tests.{leb-true, leb-false}
use Rattle.wire.specs.Numbers.{AreBytes, number_at}
use Rattle.wire.proofs.Tests.{both_true, none_fails}
use Rattle.record.specs.Record.{trade_of, party_at, facts_of, record_bytes}
use Rattle.refusals.specs.Tests.{quote_ok, codes_ok, quotes_priced, prices_ok, counts_ok, times_ok, limits_ok, agreement_ok, fault_of}
use Rattle.cases.specs.Cases.{accepted, reading_of, Held}
use Rattle.cases.specs.declared.Reading.{Reading}
use Rattle.cases.proofs.Laws.{accepted_facts, accepted_form, formed, accepted_reading}
use Rattle.theory.specs.Theory.{too_wide}
use Rattle.notices.specs.Records.{answer_bytes}
use Rattle.answer.specs.Answer.{answer_of, case_of}
use Rattle.answer.proofs.Cases.{case_room, accepted_ruled}
use Rattle.round_trips.proofs.Again.{sound}
use Rattle.round_trips.proofs.RoundTrips.{record_read}
use Rattle.ruling.specs.Ruling.{ruling_of}
use Rattle.kinds.specs.Words.{Market, Facts, Ruling}
use Rattle.kinds.specs.Recast.{recast, as_kind_one, without_quotes}
use Rattle.kinds.proofs.Rulings.{narrow_same, wide_same}

-- ---- facts that pass the tests pass them as kind 1, with any market that does
recast_passes : (f : Facts) (m : Market) → fault_of f ≡ 0 → quotes_priced m ≡ true → counts_ok f.trade m ≡ true → fault_of (recast f m) ≡ 0
unfolding fault_of prices_ok
recast_passes f m e priced counted =
    let t4 = none_fails (codes_ok f.buyer f.seller) 4 _ tt e in
    let t5 = none_fails (prices_ok f) 5 _ tt t4.1 in
    let t6 = none_fails (counts_ok f.trade f.market) 6 _ tt t5.1 in
    let t7 = none_fails (times_ok f.trade f.request f.settlement) 7 _ tt t6.1 in
    let t8 = none_fails (limits_ok f.trade f.buyer f.seller) 8 _ tt t7.1 in
    let t9 = none_fails (agreement_ok f.settlement.agreement f.settlement.agreed f.settlement.made) 9 _ tt t8.1 in
    let o = sound f e in
    simp (t4.0, o.price, priced, o.highest, o.lowest, o.agreed, counted, t7.0, t8.0, t9.0)

-- with their own market
own_passes : (f : Facts) → fault_of f ≡ 0 → (quotes_priced f.market ≡ true) × (counts_ok f.trade f.market ≡ true)
unfolding fault_of quotes_priced
own_passes f e =
    let o = sound f e in
    let t5 = none_fails (prices_ok f) 5 _ tt (none_fails (codes_ok f.buyer f.seller) 4 _ tt e).1 in
    (simp (o.bid, o.offer, o.official), (none_fails (counts_ok f.trade f.market) 6 _ tt t5.1).0)

-- and without its quotes
bare_passes : (f : Facts) → fault_of f ≡ 0 → (quotes_priced (without_quotes f).market ≡ true) × (counts_ok f.trade (without_quotes f).market ≡ true)
unfolding quotes_priced counts_ok
bare_passes f e =
    let o = sound f e in
    let c = (own_passes f e).1 in
    let c1 = both_true _ (quote_ok f.market.offer.price f.market.offer.size) c in
    let c2 = both_true _ (quote_ok f.market.bid.price f.market.bid.size) c1.0 in
    (o.official, simp ((both_true (leb 1 f.trade.contracts.0) (leb f.trade.contracts.0 1000000) c2.0).0, o.contracts))

-- ---- what facts that were read have of their types
held : (s : List ℕ) → AreBytes s → Held (facts_of s)
unfolding facts_of trade_of party_at number_at
held s small = record { number = omega (arith, small 4, small 5, small 6, small 7); buyer = refl; seller = refl }

-- ---- the same ruling, the same answer: whatever the room
module _ (s : List ℕ) (small : AreBytes s) (e : (reading_of s).refusal ≡ 0) where
  abbrev f : Facts
  f = facts_of s

  module _ (m : Market) (passes : fault_of (recast f m) ≡ 0) (same : ruling_of (recast f m) ≡ ruling_of f) where
    abbrev t : List ℕ
    t = record_bytes (recast f m)

    read : reading_of t ≡ accepted (recast f m)
    read = record_read (recast f m) (record { number = (held s small).number; buyer = (held s small).buyer; seller = (held s small).seller }) passes

    good : (reading_of t).refusal ≡ 0
    good = ap (λ (r : Reading). r.refusal) read

    says : facts_of t ≡ recast f m
    says = ap (λ (r : Reading). r.facts) (sym (accepted_reading t good) ∙ read)

    answered : answer_of (facts_of t) ≡ answer_of f
    unfolding answer_of
    answered = ap answer_of says ∙ ap (λ (r : Ruling). answer_bytes r f.buyer.code f.seller.code) same

    recast_answered : (room : ℕ) → case_of t room ≡ case_of s room
    recast_answered room = by_test (leb 96 room) refl where
      by_test : (b : Bool) → leb 96 room ≡ b → case_of t room ≡ case_of s room
      by_test true h =
          accepted_ruled t room good (leb-true 96 room h) ∙ ap (λ (w : List ℕ). (0, w)) answered ∙ sym (accepted_ruled s room e (leb-true 96 room h))
      by_test false h =
          case_room t room (formed t (accepted_form t good)).whole (leb-false 96 room h)
          ∙ sym (case_room s room (formed s (accepted_form s e)).whole (leb-false 96 room h))

  pub narrow_answered : too_wide f.form f.market ≡ false
      → (reading_of (record_bytes (as_kind_one (facts_of s))) ≡ accepted (as_kind_one (facts_of s)))
      × ((room : ℕ) → case_of (record_bytes (as_kind_one (facts_of s))) room ≡ case_of s room)
  narrow_answered trusted =
      let own = own_passes f (accepted_facts s e) in
      let passes = recast_passes f f.market (accepted_facts s e) own.0 own.1 in
      (read f.market passes (narrow_same f trusted), recast_answered f.market passes (narrow_same f trusted))

  pub wide_answered : too_wide f.form f.market ≡ true
      → (reading_of (record_bytes (without_quotes (facts_of s))) ≡ accepted (without_quotes (facts_of s)))
      × ((room : ℕ) → case_of (record_bytes (without_quotes (facts_of s))) room ≡ case_of s room)
  wide_answered wide =
      let bare = bare_passes f (accepted_facts s e) in
      let passes = recast_passes f (without_quotes f).market (accepted_facts s e) bare.0 bare.1 in
      (read (without_quotes f).market passes (wide_same f wide), recast_answered (without_quotes f).market passes (wide_same f wide))
