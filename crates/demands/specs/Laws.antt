-- The four laws the counter relies on (RULE R12.1 to R12.4), then three more. Where a law asks for accepted facts, they pass the tests 4 to 9
-- (`fault_of f ≡ 0`).
use Rattle.std.specs.Prelude.{ℕ, ◌≤◌, ◌≡◌, true, Some, None}
use Rattle.std.proofs.Common.{le_trans, lit≤, leb-true}
use mathlib.Core.List.{List, Permᴰ}
use Rattle.facts.specs.declared.Mills.{Mills}
use Rattle.facts.specs.declared.Side.{Side}
use Rattle.facts.specs.declared.Facts.{Facts}
use Rattle.facts.specs.Words.{Moment}
use Rattle.facts.specs.Words.{Price}
use Rattle.refusals.specs.Tests.{price_ok, fault_of}
use Rattle.round_trips.proofs.Again.{sound}
use Rattle.bands.specs.Table.{band_of}
use Rattle.bands.specs.Amounts.{in_error}
use Rattle.bands.proofs.Sound.{bands_sound}
use Rattle.bands.proofs.Error as bands
use Rattle.theory.specs.Theory.{up_to}
use Rattle.ruling.specs.Ruling.{ruling_of}
use Rattle.reasons.specs.Reasons.{reason_outcome}
use Rattle.ruling.specs.Outcomes.{outcome_number}
use Rattle.ruling.specs.Laws.{LiesBetween, SumsTo, PricedUpTo}
use Rattle.alike.specs.Accepted.{accepted_at, NotAsked}
use Rattle.ruling.proofs.Laws as ruling
use Rattle.ruling.proofs.Reasons as reasons
use Rattle.alike.proofs.Acceptance as acceptance
use Rattle.cut.specs.Cut.{cut, together}
use Rattle.sheet.specs.Sheet.{whole, sheet_of}
use Rattle.order.specs.Order.{Reordered, in_order}
use Rattle.order.proofs.Order as order

-- Every catastrophic error is an obvious one at the same TP.
pub catastrophic_is_obvious : (side : Side) (execution tp : Mills)
    → in_error side execution tp (band_of tp).catastrophic ≡ true → in_error side execution tp (band_of tp).obvious ≡ true
catastrophic_is_obvious = bands.catastrophic_is_obvious bands_sound

-- A price set for the reasons 6 to 9 lies between TP and execution, ends included.
pub lies_between : (f : Facts) → fault_of f ≡ 0 → LiesBetween f.trade.price (ruling_of f)
lies_between f e = ruling.lies_between f (le_trans (leb-true _ 9999999 (sound f e).price) (lit≤ tt))

-- Adjusted, nullified and standing sum to the contracts traded.
pub sums : (f : Facts) → SumsTo f.trade.contracts.0 (ruling_of f)
sums = ruling.sums

-- Reordering a sheet only reorders the answers and the indexes: where t has the cases of s in another order, case k of t being case σ k of s
-- (`Reordered`), the whole answer is the same, and what is written for t is the judgements of s in that order, each with its new index.
pub reordering : (σ : ℕ → ℕ) (s t : List ℕ) (room : ℕ) → Reordered σ s t
    → ((sheet_of t room).0 ≡ (sheet_of s room).0) × ((sheet_of t room).0.refusal ≡ 0 → (sheet_of t room).1 ≡ in_order σ s)
reordering σ s t room a = (order.reordered_answer σ s t a room, order.reordered_bytes σ s t a room)

-- Nothing more is asked than a whole sheet and its cases in any order: put one after the other, they are such a sheet.
pub any_order : (s : List ℕ) (ds : List (List ℕ)) → whole s ≡ true → Permᴰ (cut s).cases ds → (σ : ℕ → ℕ) × Reordered σ s (together ds)
any_order = order.any_order

-- ---- three more

-- No price leaves the range of prices, 0 to 9,999,999.
pub stays_priced : (f : Facts) → fault_of f ≡ 0 → PricedUpTo 9999999 (ruling_of f)
stays_priced f e =
    let s = sound f e in
    ruling.stays_priced f 9999999 (leb-true _ 9999999 s.price) (up_to_lem f.market.bid.price s.bid) (up_to_lem f.market.offer.price s.offer)
    (up_to_lem f.market.official s.official) (up_to_lem f.settlement.agreed s.agreed) where
      up_to_lem : (p : Price) → price_ok p ≡ true → up_to 9999999 p ≡ true
      up_to_lem (Some m) h = h
      up_to_lem None h = h

-- Every ruling has the outcome of its reason: 1 to 5 no relief, 6 to 10 adjusted, 11 to 13 nullified, 14 waiting.
pub reasons_agree : (f : Facts) → outcome_number (ruling_of f).outcome ≡ reason_outcome (ruling_of f).reason
reasons_agree = reasons.reasons_agree

-- An acceptance that no step asks for is ignored (RULE R2.10): where the reason is neither 9 nor 12, any other acceptance has the same ruling.
pub acceptance_ignored : (f : Facts) (m : Moment) → NotAsked (ruling_of f) → ruling_of (accepted_at f m) ≡ ruling_of f
acceptance_ignored = acceptance.acceptance_ignored
