-- Demand 3 (RULE R12.5, R12.6, R13.0.3): among accepted cases, nothing of a member's code or limit reaches the other party, but for the code
-- where the trade is repriced or undone, and on which side of the limit the tested price (`tested_in`) lies. On rulings, on the bytes of a
-- case's answer, on sheets, and of every two calls. (That a case is accepted tells that the execution is within both limits: test 8.)
use Rattle.std.specs.Prelude.{ℕ, ◌+◌, ◌≤◌, ◌<◌, ◌≡◌, refl, List, [], ◌∷◌, ◌++◌, get_or, set}
use Rattle.std.proofs.Common.{sym, ap, ◌∙◌, ⊎_elim, arith, get_or-set_other, lit<}
use Rattle.std.proofs.lemmas.Bool.{eqb-false}
use Rattle.wire.specs.Numbers.{stored, number_at}
use Rattle.wire.specs.Tests.{in_range}
use Rattle.facts.specs.Numbers.{price_number, price_of, moment_of}
use Rattle.codes.specs.Codes.{side_of, kind_of, day_of, agreement_of, flag_of}
use Rattle.forms.specs.Forms.{form_of}
use Rattle.record.specs.Record.{trade_of, market_of, request_of, party_at, settlement_of, facts_of}
use Rattle.refusals.specs.Tests.{head_ok, zeros_ok, lists_ok, codes_ok, code_ok, code_byte_ok, prices_ok, quotes_priced, counts_ok, times_ok, limits_ok}
use Rattle.bands.specs.Table.{band_of}
use Rattle.bands.specs.Amounts.{in_error, moved_by}
use Rattle.parties.specs.Parties.{by_side}
use Rattle.way.specs.Way.{obvious_open, opening_open, catastrophic_open, way_of}
use Rattle.width.specs.Width.{apart}
use Rattle.theory.specs.Theory.{theory_of}
use Rattle.agreement.specs.Agreed.{in_time, heeded_of}
use Rattle.act.specs.Limits.{catastrophic_stopped}
use Rattle.act.specs.Act.{catastrophic_act, act_of}
use Rattle.act.specs.Tested.{tested_at, Alike}
use Rattle.ruling.specs.Words.{Price, None, Side, Buy, Facts}
use Rattle.ruling.specs.Ruling.{ruled_at, ruled_on, ruled_by, ruling_of}
use Rattle.alike.specs.Tested.{tested_in, altered_facts}
use Rattle.alike.proofs.Rulings as blind
use Rattle.cases.specs.Cases.{refusal_of, reading_of}
use Rattle.answer.specs.Answer.{case_of}
use Rattle.alike.specs.Cases.{code_in, AlikeBut, UntoldBytes, Blind}
use Rattle.alike.proofs.Cases as bytes
use Rattle.sheet.specs.declared.SheetAnswer.{SheetAnswer}
use Rattle.forms.specs.Heads.{pairs, known, is_length}
use Rattle.cut.specs.Cut.{begins, case_length, cut_by, cut}
use Rattle.sheet.specs.Sheet.{case_at, start_of, sheet_of}
use Rattle.alike.specs.Sheets.{AlikeButOne, OnlyCase}
use Rattle.alike.proofs.Sheets as sheets
use Rattle.specimen.specs.Good.{good_case, good_two}
use Rattle.demands.specs.Why as why
use Rattle.demands.specs.Edges.{at, to_customer}

-- the price that is tested, if any, is within both limits or outside both
abbrev pub Untold : Facts → Side → Price → Type 0
Untold f who limit = Alike who (tested_in f who) (by_side who f.buyer.limit f.seller.limit) limit

-- The same facts with another code and limit of one party have the same ruling, where the tested price does not tell the limits apart.
pub same_ruling : (f : Facts) (who : Side) (code : List ℕ) (limit : Price) → Untold f who limit → ruling_of (altered_facts f who code limit) ≡ ruling_of f
same_ruling = blind.same_ruling

-- ---- neither premise nor conclusion is empty: a sell at 6.000 on the catastrophic way, whose 7.000 the Customer buyer's limit of 6.500 stops
abbrev stopped : Facts
stopped = to_customer 12000 6000 None

-- The premise holds of a pair that differs: 7.000 is outside 6.500 and outside 6.600.
pub untold_pair : Untold stopped Buy (at 6600)
unfolding tested_in band_of in_error moved_by way_of obvious_open opening_open catastrophic_open theory_of heeded_of in_time tested_at
untold_pair = refl

pub pair_differs : altered_facts stopped Buy stopped.buyer.code (at 6600) ≡ stopped → ⊥
pair_differs e = eqb-false 6600 6500 refl (ap (λ (f : Facts). price_number f.buyer.limit) e)

-- Without the premise the rulings can differ: within a limit of 8.000 the trade is adjusted (8), outside 6.500 it is nullified (12).
pub told_pair : ((ruling_of (altered_facts stopped Buy stopped.buyer.code (at 8000))).reason ≡ 8) × ((ruling_of stopped).reason ≡ 12)
unfolding band_of in_error moved_by way_of obvious_open opening_open catastrophic_open theory_of heeded_of in_time catastrophic_stopped catastrophic_act act_of ruled_at ruled_on ruled_by ruling_of
told_pair = (refl, refl)

-- ---- in bytes

-- For two accepted cases alike but for one party's member code and limit (bytes 48 to 55, or 56 to 63), where the tested price does not tell the
-- limits apart: the 32 bytes of the ruling are the same; the other party's notice is the same but for its bytes 24 to 27; and these are the code
-- exactly when the outcome is 1 or 2, and zeros otherwise (`Blind`).
pub blind_cases : (who : Side) (s t : List ℕ) (room room' : ℕ) → (reading_of s).refusal ≡ 0 → (reading_of t).refusal ≡ 0 → 96 ≤ room → 96 ≤ room'
    → AlikeBut who s t → UntoldBytes who s t → Blind who s t (case_of s room).1 (case_of t room').1
blind_cases = bytes.blind_cases

-- A code is never four zeros, so whether it shows can be told from the notice.
pub code_seen : (who : Side) (s : List ℕ) → (reading_of s).refusal ≡ 0 → code_in who s ≡ 0 ∷ 0 ∷ 0 ∷ 0 ∷ [] → ⊥
code_seen = bytes.code_seen

-- ---- on sheets

-- a is written for s and b for t, under the refusal n: where they are ruled, the same but for what `Blind` says of case j; where they are refused
-- whole, nothing
pub record BlindWritten (who : Side) (s t : List ℕ) (j n : ℕ) (a b : List ℕ) : Type 0 where
  pub ruled : n ≡ 0 → OnlyCase who s t j a b
  pub refused : (n ≡ 0 → ⊥) → (a ≡ []) × (b ≡ [])

-- For two sheets of one length with the same byte at every place but one party's eight in case j, case j accepted in both and the tested price
-- not telling the limits apart (`AlikeButOne`), whatever the room: the whole answer (refusal, bytes written, cases ruled and refused) is the
-- same, and the bytes written are the same before and after the 96 of case j, which are as `Blind` says.
pub blind_sheets : (who : Side) (s t : List ℕ) (j : ℕ) → AlikeButOne who s t j → (room : ℕ)
    → ((sheet_of t room).0 ≡ (sheet_of s room).0) × BlindWritten who s t j (sheet_of s room).0.refusal (sheet_of s room).1 (sheet_of t room).1
blind_sheets who s t j a room =
    let same = sheets.blind_answer who s t j a room in (
      same,
      record {
        ruled = sheets.only_case who s t j a room;
        refused = λ d. (why.none_written s room d, why.none_written t room (λ z. d (ap (λ (x : SheetAnswer). x.refusal) (sym same) ∙ z)));
      },
    )

-- The premise holds of sheets that differ: a case of kind 2 and the good record behind it, at 92, and the same with another code of the buyer of
-- either.
abbrev mixed : List ℕ
mixed = good_two ++ good_case

abbrev other_buyer : ℕ → List ℕ
other_buyer at = stored mixed at (67 ∷ 68 ∷ 51 ∷ 52 ∷ [])

kept : (at i : ℕ) → ((k : ℕ) → at ≤ k → k < at + 8 → i ≡ k → ⊥) → get_or (set (set (set (set mixed at 67) (at + 1) 68) (at + 2) 51) (at + 3) 52) i 0 ≡ get_or mixed i 0
kept at i d =
    get_or-set_other (set (set (set mixed at 67) (at + 1) 68) (at + 2) 51) (at + 3) i 52 0 (d (at + 3) (omega arith) (omega arith))
    ∙ get_or-set_other (set (set mixed at 67) (at + 1) 68) (at + 2) i 51 0 (d (at + 2) (omega arith) (omega arith))
    ∙ get_or-set_other (set mixed at 67) (at + 1) i 68 0 (d (at + 1) (omega arith) (omega arith))
    ∙ get_or-set_other mixed at i 67 0 (d at (omega arith) (omega arith))

pub alike_sheets : AlikeButOne Buy mixed (other_buyer 140) 1
unfolding pairs known begins case_length cut_by cut case_at start_of reading_of refusal_of head_ok zeros_ok lists_ok codes_ok code_ok code_byte_ok prices_ok quotes_priced counts_ok times_ok limits_ok in_range number_at facts_of trade_of market_of request_of party_at settlement_of price_of moment_of side_of kind_of day_of agreement_of flag_of tested_in band_of in_error moved_by way_of obvious_open opening_open catastrophic_open theory_of heeded_of in_time tested_at is_length form_of apart
alike_sheets =
    record {
      long = refl;
      within = lit< tt;
      same = λ i o. sym (kept 140 i (λ k h h' e. ⊎_elim (λ l. omega arith) (λ l. omega arith) o));
      first = refl;
      second = refl;
      untold = tt;
    }

pub alike_sheets_two : AlikeButOne Buy mixed (other_buyer 48) 0
unfolding pairs known begins case_length cut_by cut case_at start_of reading_of refusal_of head_ok zeros_ok lists_ok codes_ok code_ok code_byte_ok prices_ok quotes_priced counts_ok times_ok limits_ok in_range number_at facts_of trade_of market_of request_of party_at settlement_of price_of moment_of side_of kind_of day_of agreement_of flag_of tested_in band_of in_error moved_by way_of obvious_open opening_open catastrophic_open theory_of heeded_of in_time tested_at is_length form_of apart
alike_sheets_two =
    record {
      long = refl;
      within = lit< tt;
      same = λ i o. sym (kept 48 i (λ k h h' e. ⊎_elim (λ l. omega arith) (λ l. omega arith) o));
      first = refl;
      second = refl;
      untold = tt;
    }

pub sheets_differ : (mixed ≡ other_buyer 140 → ⊥) × (mixed ≡ other_buyer 48 → ⊥)
sheets_differ = (λ e. eqb-false 65 67 refl (ap (λ (l : List ℕ). get_or l 140 0) e), λ e. eqb-false 65 67 refl (ap (λ (l : List ℕ). get_or l 48 0) e))
