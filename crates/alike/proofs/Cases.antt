-- Demand 3 in bytes: the facts of the second case are those of the first with another code and limit, so the ruling is the same
-- (`Rulings`), and an answer holds the ruling and the two codes, each at its place.
use Prim.Native.Nat.{ℕ, zero, suc, ◌+◌, ◌≤◌, ◌<◌}
use mathlib.Core.Path.{◌≡◌, refl, sym, ap, subst, ◌∙◌}
use mathlib.Core.Logic.{inl, inr}
use mathlib.Core.Bool.{true, ◌||◌}
use mathlib.Core.List.{List, [], ◌∷◌}
use native.Mathlib.Omega.{arith}
use lib.ListN.{length, get_or}
use lib.Dec.{eqb, lit≤}
use borrow.Author.Tests.{eqb-false}
use Rattle.wire.specs.Numbers.{joined, elements_from, elements, number_at}
use Rattle.wire.specs.Tests.{pick, in_range}
use Rattle.wire.proofs.Tests.{both_true, none_fails}
use Rattle.forms.specs.Forms.{form_of}
use Rattle.record.specs.Record.{trade_of, market_of, request_of, party_at, settlement_of, facts_of}
use Rattle.refusals.specs.Tests.{code_byte_ok, code_ok, codes_ok, fault_of}
use Rattle.cases.specs.Cases.{reading_of}
use Rattle.cases.proofs.Laws.{accepts, accepted_facts, passed_case}
use Rattle.parties.specs.Parties.{by_side}
use Rattle.ruling.specs.Outcomes.{outcome_number}
use Rattle.ruling.specs.Ruling.{ruling_of}
use Rattle.act.specs.Tested.{altered, Alike}
use Rattle.alike.specs.Tested.{tested_in, altered_facts}
use Rattle.alike.proofs.Rulings.{same_ruling}
use Rattle.notices.specs.Records.{ruling_record, shows, shown_code, notice_record, answer_records, answer_bytes}
use Rattle.alike.specs.Words.{Price, Side, Buy, Sell, Facts, Outcome, NoRelief, Adjusted, Nullified, Waiting, Ruling}
use Rattle.answer.specs.Answer.{answer_of, case_of}
use Rattle.alike.specs.Cases.{party_place, code_in, limit_in, Outside, AlikeBut, UntoldBytes, Blind}
use Rattle.answer.proofs.Cases.{accepted_ruled}

-- ---- the case: bytes that are the same say the same
pub from_48 : (who : Side) → 48 ≤ party_place who
from_48 Buy = lit≤ tt
from_48 Sell = lit≤ tt

pub to_64 : (who : Side) → party_place who + 8 ≤ 64
to_64 Buy = lit≤ tt
to_64 Sell = lit≤ tt

module _ (who : Side) (s t : List ℕ) (same : AlikeBut who s t) where
  -- a stretch of n bytes from place i on, none of them the party's
  abbrev Clear : ℕ → ℕ → Type 0
  Clear n i = (k : ℕ) → k < n → Outside who (i + k)

  elements_same : (n i : ℕ) → Clear n i → (w k : ℕ) → k + w ≤ n → elements_from w t i k ≡ elements_from w s i k
  elements_same n i clear zero k h = refl
  elements_same n i clear (suc w) k h = cc (same (i + k) (clear k (omega arith)), elements_same n i clear w (suc k) (omega arith))

  number_same : (w i : ℕ) → Clear w i → number_at w t i ≡ number_at w s i
  unfolding number_at
  number_same w i clear = ap joined (elements_same w i clear w 0 (omega arith))

  -- before 48 and from 64 on neither party has any
  low : (w i : ℕ) → i + w ≤ 48 → number_at w t i ≡ number_at w s i
  low w i h = number_same w i (λ k l. inl (omega (arith, from_48 who)))

  high : (w i : ℕ) → 64 ≤ i → number_at w t i ≡ number_at w s i
  high w i h = number_same w i (λ k l. inr (omega (arith, to_64 who)))

  low_byte : (i : ℕ) → i < 48 → get_or t i 0 ≡ get_or s i 0
  low_byte i h = sym (same i (inl (omega (arith, from_48 who))))

  high_byte : (i : ℕ) → 64 ≤ i → get_or t i 0 ≡ get_or s i 0
  high_byte i h = sym (same i (inr (omega (arith, to_64 who))))

  form_same : length t ≡ length s → form_of t ≡ form_of s
  unfolding form_of
  form_same long = rw (long, high 4 88 (lit≤ tt))

  trade_same : trade_of t ≡ trade_of s
  unfolding trade_of
  trade_same = cc (low 4 4 (lit≤ tt), low 4 8 (lit≤ tt), low 4 12 (lit≤ tt), low 4 16 (lit≤ tt))

  market_same : market_of t ≡ market_of s
  unfolding market_of
  market_same = cc (low 4 20 (lit≤ tt), low 4 24 (lit≤ tt), low 4 28 (lit≤ tt), low 4 32 (lit≤ tt), low 4 40 (lit≤ tt))

  request_same : request_of t ≡ request_of s
  unfolding request_of
  request_same =
      cc
      (low_byte 44 (lit≤ tt), low_byte 45 (lit≤ tt), low_byte 46 (lit≤ tt), low_byte 47 (lit≤ tt), high_byte 66 (lit≤ tt), high 4 72 (lit≤ tt))

  settlement_same : settlement_of t ≡ settlement_of s
  unfolding settlement_of
  settlement_same = cc (high_byte 67 (lit≤ tt), high 4 68 (lit≤ tt), high 4 76 (lit≤ tt), high 4 80 (lit≤ tt))

  party_same : (at kind : ℕ) → Clear 4 at → Clear 4 (at + 4) → 64 ≤ kind → party_at t at kind ≡ party_at s at kind
  unfolding party_at
  party_same at kind code limit h = cc (elements_same 4 at code 4 0 (lit≤ tt), number_same 4 (at + 4) limit, high_byte kind h)

-- The facts of the second case are those of the first with the party's code and limit as the second has them.
pub facts_altered : (who : Side) (s t : List ℕ) → length t ≡ length s → AlikeBut who s t
    → facts_of t ≡ altered_facts (facts_of s) who (code_in who t) (limit_in who t)
unfolding facts_of party_at
facts_altered Buy s t long same =
    let seller = party_same Buy s t same 56 65 (λ k l. inr (omega arith)) (λ k l. inr (omega arith)) (lit≤ tt) in
    cc (form_same Buy s t same long, trade_same Buy s t same, market_same Buy s t same, request_same Buy s t same, settlement_same Buy s t same, high_byte Buy s t same 64 (lit≤ tt))
facts_altered Sell s t long same =
    let buyer = party_same Sell s t same 48 64 (λ k l. inl (omega arith)) (λ k l. inl (omega arith)) (lit≤ tt) in
    cc (form_same Sell s t same long, trade_same Sell s t same, market_same Sell s t same, request_same Sell s t same, settlement_same Sell s t same, high_byte Sell s t same 65 (lit≤ tt))

-- ---- the answer: the other party's notice shows the code where the outcome is 1 or 2
shown_four : (o : Outcome) (x y z w : ℕ)
    → elements 4 (shown_code (outcome_number o) (x ∷ y ∷ z ∷ w ∷ [])) 0
    ≡ pick (eqb (outcome_number o) 1 || eqb (outcome_number o) 2) (x ∷ y ∷ z ∷ w ∷ []) (0 ∷ 0 ∷ 0 ∷ 0 ∷ [])
unfolding shown_code shows in_range
shown_four (NoRelief c) x y z w = refl
shown_four (Adjusted a) x y z w = refl
shown_four (Nullified c) x y z w = refl
shown_four (Waiting c) x y z w = refl

-- two answers with the same ruling and the same code of the other party
blind_answers : (who : Side) (s t : List ℕ) (r : Ruling) (other : List ℕ)
    → Blind who s t (answer_bytes r (by_side who (code_in who s) other) (by_side who other (code_in who s)))
    (answer_bytes r (by_side who (code_in who t) other) (by_side who other (code_in who t)))
unfolding answer_records ruling_record notice_record
blind_answers Buy s t r other =
    record { ruling = refl; before = refl; after = refl; first = shown_four r.outcome _ _ _ _; second = shown_four r.outcome _ _ _ _ }
blind_answers Sell s t r other =
    record { ruling = refl; before = refl; after = refl; first = shown_four r.outcome _ _ _ _; second = shown_four r.outcome _ _ _ _ }

-- the answer to facts with another code and limit of one party: the ruling stays, and the code is the other one
answer_altered : (f : Facts) (who : Side) (code : List ℕ) (limit : Price) → Alike who (tested_in f who) (by_side who f.buyer.limit f.seller.limit) limit
    → answer_of (altered_facts f who code limit) ≡ answer_bytes (ruling_of f) (altered who code limit Buy f.buyer).code (altered who code limit Sell f.seller).code
unfolding answer_of
answer_altered f who code limit untold =
    ap (λ (r : Ruling). answer_bytes r (altered who code limit Buy f.buyer).code (altered who code limit Sell f.seller).code) (same_ruling f who code limit untold)

-- Of one party's code and limit the answer tells the other party the code where the trade is repriced or undone, and nothing else
-- but on which side of the limit the tested price lies.
pub blind : (who : Side) (s t : List ℕ) → length t ≡ length s → AlikeBut who s t → UntoldBytes who s t → Blind who s t (answer_of (facts_of s)) (answer_of (facts_of t))
unfolding answer_of facts_of party_at
blind Buy s t long same untold =
    subst (Blind Buy s t (answer_of (facts_of s)))
    (sym (ap answer_of (facts_altered Buy s t long same) ∙ answer_altered (facts_of s) Buy (code_in Buy t) (limit_in Buy t) untold))
    (blind_answers Buy s t (ruling_of (facts_of s)) (code_in Sell s))
blind Sell s t long same untold =
    subst (Blind Sell s t (answer_of (facts_of s)))
    (sym (ap answer_of (facts_altered Sell s t long same) ∙ answer_altered (facts_of s) Sell (code_in Sell t) (limit_in Sell t) untold))
    (blind_answers Sell s t (ruling_of (facts_of s)) (code_in Buy s))

-- Two accepted cases that are alike at their heads are as long.
pub alike_long : (who : Side) (s t : List ℕ) → (reading_of s).refusal ≡ 0 → (reading_of t).refusal ≡ 0 → AlikeBut who s t → length t ≡ length s
alike_long who s t e e' same = (passed_case t (accepts t e')).long ∙ low who s t same 2 0 (lit≤ tt) ∙ sym (passed_case s (accepts s e)).long

-- The same of two accepted cases and the bytes that are written for them.
pub blind_cases : (who : Side) (s t : List ℕ) (room room' : ℕ) → (reading_of s).refusal ≡ 0 → (reading_of t).refusal ≡ 0 → 96 ≤ room → 96 ≤ room'
    → AlikeBut who s t → UntoldBytes who s t → Blind who s t (case_of s room).1 (case_of t room').1
blind_cases who s t room room' e e' fits fits' same untold =
    rw (accepted_ruled s room e fits, accepted_ruled t room' e' fits') (blind who s t (alike_long who s t e e' same) same untold)

-- ---- a code is letters and digits, never zeros: whether it shows can be told from the notice
never_zeros : (code : List ℕ) → code_ok code ≡ true → code ≡ 0 ∷ 0 ∷ 0 ∷ 0 ∷ [] → ⊥
unfolding code_ok code_byte_ok in_range
never_zeros code h e = eqb-false 0 0 (sym h ∙ ap code_ok e) refl

pub code_seen : (who : Side) (s : List ℕ) → (reading_of s).refusal ≡ 0 → code_in who s ≡ 0 ∷ 0 ∷ 0 ∷ 0 ∷ [] → ⊥
unfolding fault_of codes_ok facts_of party_at
code_seen who s e = by_side_lem who where
  codes : (code_ok (code_in Buy s) ≡ true) × (code_ok (code_in Sell s) ≡ true)
  codes = both_true (code_ok (code_in Buy s)) (code_ok (code_in Sell s)) (none_fails (codes_ok (facts_of s).buyer (facts_of s).seller) 4 _ tt (accepted_facts s e)).0

  by_side_lem : (who : Side) → code_in who s ≡ 0 ∷ 0 ∷ 0 ∷ 0 ∷ [] → ⊥
  by_side_lem Buy = never_zeros (code_in Buy s) codes.0
  by_side_lem Sell = never_zeros (code_in Sell s) codes.1
