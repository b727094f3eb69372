-- Two kinds of case (RULE R2.11 to R2.13, R5.6 to R5.10, R9.6, R12.8, R12.9): a case of kind 1 is answered as before there was a second kind; one
-- of kind 2 as the same facts of kind 1, and where its quotes are too wide to trust, as these facts without their quotes. Every other statement on
-- cases, demand 3 among them, is over the form of a record and so of both kinds.
use Rattle.std.specs.Prelude.{ℕ, ◌+◌, ◌*◌, ◌≤◌, ◌<◌, ◌≡◌, refl, true, false, List, length}
use Rattle.std.proofs.Common.{arith}
use contract.Lifetimes.{Lfts}
use Rattle.std.specs.Borrow.{Bor, MutBor}
use Rattle.wire.specs.Numbers.{AreBytes, number_at}
use Rattle.wire.proofs.Tests.{range_ends}
use Rattle.facts.specs.Numbers.{mills}
use Rattle.forms.specs.Words.{Mills, Some, None, Form, One, Two}
use Rattle.forms.specs.Heads.{known, IsCase}
use Rattle.forms.specs.Forms.{form_length, form_kind, differential_of, form_of}
use Rattle.forms.proofs.Heads as forms
use Rattle.record.specs.Record.{facts_of, record_bytes}
use Rattle.refusals.specs.Tests.{fault_of}
use Rattle.round_trips.proofs.Again.{sound}
use Rattle.cases.specs.Cases.{accepted, reading_of}
use Rattle.cases.proofs.Laws as cases
use Rattle.width.proofs.Width as width
use Rattle.theory.specs.Theory.{official_source, too_wide, theory_of}
use Rattle.theory.proofs.Prices as theory
use Rattle.ruling.specs.Words.{Side, Market, Facts}
use Rattle.ruling.specs.Outcomes.{outcome_number, counts_of}
use Rattle.ruling.specs.Origins.{origin_of, Exactly}
use Rattle.ruling.specs.Ruling.{ruling_of}
use Rattle.answer.specs.Answer.{case_of}
use Rattle.answer.proofs as answer
use Rattle.sheet.specs.Sheet.{whole, case_at, cases_in, entry_of, sheet_of}
use Rattle.sheet.specs.declared.SheetAnswer.{SheetAnswer}
use Rattle.sheet.proofs as sheet
use Rattle.desk.specs.declared.DeskSheet.{DeskSheet}
use Rattle.desk.specs.Desk.{desk_sheet}
use Rattle.desk.proofs as desk
use Rattle.kinds.specs.Before.{theory_before, case_before, entry_before, sheet_before}
use Rattle.kinds.specs.Recast.{as_kind_one, without_quotes}
use Rattle.kinds.proofs.Rulings as rulings
use Rattle.kinds.proofs.Before as before
use Rattle.kinds.proofs.Sheets as sheets
use Rattle.kinds.proofs.Recast as recasts
use Rattle.kinds.proofs.Tested as tested
use Rattle.alike.specs.Tested.{tested_in}
use Rattle.demands.specs.Demand2.{Said}

-- ---- the kinds

-- Kind 1 has 88 bytes and no differential, kind 2 has 92 and one.
pub kind_one : (form_length One ≡ 88) × (form_kind One ≡ 1) × (differential_of One ≡ None)
kind_one = (refl, refl, refl)

pub kind_two : (d : Mills) → (form_length (Two d) ≡ 92) × (form_kind (Two d) ≡ 2) × (differential_of (Two d) ≡ Some d)
kind_two d = (refl, refl, refl)

-- Every form has a pair of length and kind that there is, and every case has length and kind of its form at its head, and its length.
pub form_known : (f : Form) → known (form_length f) (form_kind f) ≡ true
form_known = forms.form_known

pub head_says : (s : List ℕ) → IsCase s → (number_at 2 s 0 ≡ form_length (form_of s)) × (number_at 2 s 2 ≡ form_kind (form_of s)) × (length s ≡ form_length (form_of s))
head_says s c =
    (forms.head_length_lem s c.pair c.long, forms.head_kind_lem s c.pair c.long, forms.long_as s (forms.case_length_lem s c.pair c.long))

-- A case of 88 bytes is of kind 1; one of 92 is of kind 2, with the differential that stands at 88.
pub form_one : (s : List ℕ) → length s ≡ 88 → form_of s ≡ One
form_one = forms.form_one

pub form_two : (s : List ℕ) → length s ≡ 92 → form_of s ≡ Two (mills (number_at 4 s 88))
form_two = forms.form_two

-- Every accepted byte string is a case.
pub accepted_is : (s : List ℕ) → (reading_of s).refusal ≡ 0 → IsCase s
accepted_is s e = cases.passed_case s (cases.accepts s e)

-- ---- wide quotes

-- Quotes are too wide exactly where the record has a differential and both quotes, and the offer is at least the bid plus twice the differential.
pub record Apart (form : Form) (m : Market) : Type 0 where
  pub differential : Mills
  pub bid : Mills
  pub offer : Mills
  pub kind : differential_of form ≡ Some differential
  pub bidden : m.bid.price ≡ Some bid
  pub offered : m.offer.price ≡ Some offer
  pub far : bid.0 + 2 * differential.0 ≤ offer.0

pub wide_exactly : (form : Form) (m : Market) → Exactly (too_wide form m ≡ true) (Apart form m)
wide_exactly form m = (
  λ h. let w = width.is_wide_of (differential_of form) m.bid.price m.offer.price h in
      record { differential = w.0; bid = w.1; offer = w.2; kind = w.3; bidden = w.4; offered = w.5; far = w.6 },
  λ a. rw (a.kind, a.bidden, a.offered) (width.far a.differential a.bid a.offer a.far),
)

-- A crossed market, the bid above the offer, is not wide; nor is one of which a quote is none, whatever the other.
pub crossed : (form : Form) (m : Market) (bid offer : Mills) → m.bid.price ≡ Some bid → m.offer.price ≡ Some offer → offer.0 < bid.0 → too_wide form m ≡ false
crossed form m bid offer b o h = rw (b, o) (width.crossed_narrow (differential_of form) bid offer h)

pub bid_none : (form : Form) (m : Market) → m.bid.price ≡ None → too_wide form m ≡ false
bid_none form m e = rw e (width.bid_missing (differential_of form) m.offer.price)

pub offer_none : (form : Form) (m : Market) → m.offer.price ≡ None → too_wide form m ≡ false
offer_none form m e = rw e (width.offer_missing (differential_of form) m.bid.price)

-- ---- the theoretical price

-- Where the quotes are too wide TP is the official's, or there is none; where they are not, it is found as before.
pub wide_theory : (form : Form) (side : Side) (m : Market) → too_wide form m ≡ true → theory_of form side m ≡ official_source m.official
wide_theory = theory.theory_wide

pub trusted_theory : (form : Form) (side : Side) (m : Market) → too_wide form m ≡ false → theory_of form side m ≡ theory_before side m
trusted_theory = theory.theory_trusted

-- Then no quote is its origin, and an adjustment, on the opening way too, covers every contract.
pub wide_origin : (f : Facts) → too_wide f.form f.market ≡ true → origin_of (ruling_of f) ≡ 1 → ⊥
wide_origin = rulings.never_quoted

pub wide_covers : (f : Facts) → too_wide f.form f.market ≡ true → outcome_number (ruling_of f).outcome ≡ 1
    → (counts_of (ruling_of f).outcome).adjusted ≡ f.trade.contracts
wide_covers = rulings.wide_covers

-- ---- kind 1: the very bytes that it got before (`kinds/specs/Before`: the definitions as they were)

-- Every byte string but one of 92 bytes is answered as before, whatever the room.
pub as_before : (s : List ℕ) (room : ℕ) → (length s ≡ 92 → ⊥) → case_of s room ≡ case_before s room
as_before = before.as_before

-- So every call of `rule_case` and `desk_rule_case`.
module _ (κs : Lfts 2) (s s' : Bor (List ℕ)) (out out' : MutBor (List ℕ)) (r : ℕ) (short : length s.now ≡ 92 → ⊥) where
  pub rule_case_as_before : answer.rule_case.Reads.Post κs (s, (out, tt)) r (s', (out', tt))
      → let a = case_before s.now (length out.now) in Said a.0 a.1 r out.now out'.now
  rule_case_as_before p = rw (as_before s.now (length out.now) short) at p

  pub desk_rule_case_as_before : desk.desk_rule_case.Reads.Post κs (s, (out, tt)) r (s', (out', tt))
      → let a = case_before s.now (length out.now) in Said a.0 a.1 r out.now out'.now
  desk_rule_case_as_before p = rw (as_before s.now (length out.now) short) at p

-- And in a sheet that is ruled: the entry of a case of 88 bytes is the one that it had.
pub entry_as_before : (s : List ℕ) (k : ℕ) → length (case_at s k) ≡ 88 → entry_of s k ≡ entry_before k (case_at s k)
entry_as_before s k long = before.entry_before_lem (case_at s k) long k

-- So a whole sheet whose cases are all of kind 1 is answered as before, refused whole or ruled, whatever the room.
abbrev pub AllKindOne : List ℕ → Type 0
AllKindOne s = (whole s ≡ true) × ((k : ℕ) → k < cases_in s → length (case_at s k) ≡ 88)

pub sheet_as_before : (s : List ℕ) (room : ℕ) → AllKindOne s → sheet_of s room ≡ sheet_before s room
sheet_as_before s room h = sheets.sheet_before_lem s h.0 h.1 room

-- And so every call of `rule_sheet` and `desk_rule_sheet`.
module _ (κs : Lfts 2) (s s' : Bor (List ℕ)) (out out' : MutBor (List ℕ)) (one : AllKindOne s.now) where
  pub rule_sheet_as_before : (r : SheetAnswer) → sheet.rule_sheet.Reads.Post κs (s, (out, tt)) r (s', (out', tt))
      → let a = sheet_before s.now (length out.now) in Said a.0 a.1 r out.now out'.now
  rule_sheet_as_before r p = rw (sheet_as_before s.now (length out.now) one) at p

  pub desk_rule_sheet_as_before : (r : DeskSheet) → desk.desk_rule_sheet.Reads.Post κs (s, (out, tt)) r (s', (out', tt))
      → let a = sheet_before s.now (length out.now) in Said (desk_sheet a.0) a.1 r out.now out'.now
  desk_rule_sheet_as_before r p = rw (sheet_as_before s.now (length out.now) one) at p

-- ---- kind 2: differs from the same facts of kind 1 only where the quotes are wide

-- Where they are not, the ruling is that of the same facts of kind 1; where they are, that of the same facts of kind 1 without their quotes.
pub narrow_same : (f : Facts) → too_wide f.form f.market ≡ false → ruling_of (as_kind_one f) ≡ ruling_of f
narrow_same = rulings.narrow_same

pub wide_same : (f : Facts) → too_wide f.form f.market ≡ true → ruling_of (without_quotes f) ≡ ruling_of f
wide_same = rulings.wide_same

-- In bytes: the record of those facts is accepted, and gets the same answer, whatever the room.
pub narrow_answered : (s : List ℕ) → AreBytes s → (reading_of s).refusal ≡ 0 → too_wide (facts_of s).form (facts_of s).market ≡ false
    → (reading_of (record_bytes (as_kind_one (facts_of s))) ≡ accepted (as_kind_one (facts_of s)))
    × ((room : ℕ) → case_of (record_bytes (as_kind_one (facts_of s))) room ≡ case_of s room)
narrow_answered = recasts.narrow_answered

pub wide_answered : (s : List ℕ) → AreBytes s → (reading_of s).refusal ≡ 0 → too_wide (facts_of s).form (facts_of s).market ≡ true
    → (reading_of (record_bytes (without_quotes (facts_of s))) ≡ accepted (without_quotes (facts_of s)))
    × ((room : ℕ) → case_of (record_bytes (without_quotes (facts_of s))) room ≡ case_of s room)
wide_answered = recasts.wide_answered

-- ---- demand 3 over this TP (RULE R12.5.4): the price that a limit is tested against is that of the same facts of kind 1, or without their quotes
pub narrow_tested : (f : Facts) (who : Side) → too_wide f.form f.market ≡ false → tested_in (as_kind_one f) who ≡ tested_in f who
narrow_tested = tested.narrow_tested

pub wide_tested : (f : Facts) (who : Side) → too_wide f.form f.market ≡ true → tested_in (without_quotes f) who ≡ tested_in f who
wide_tested = tested.wide_tested

-- ---- the differential of what is accepted (RULE R2.6.88, R3.5, R5.7)

-- It is 1 to 9,999,999: neither 0 nor none passes.
pub differential_range : (f : Facts) (d : Mills) → fault_of f ≡ 0 → f.form ≡ Two d → (1 ≤ d.0) × (d.0 ≤ 9999999)
differential_range f d e form = range_ends 1 9999999 d.0 (rw form at (sound f e).differential)

-- So a locked market, the offer at the bid, is not wide either.
pub locked : (f : Facts) (d bid offer : Mills) → fault_of f ≡ 0 → f.form ≡ Two d → f.market.bid.price ≡ Some bid → f.market.offer.price ≡ Some offer
    → bid.0 ≡ offer.0 → too_wide f.form f.market ≡ false
locked f d bid offer e form b o same = rw (form, b, o) (width.near d bid offer (let r = differential_range f d e form in omega arith))
