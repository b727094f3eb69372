-- The demands are not empty (RULE R13.4): a good record (`specimen`) is accepted, ruled in its 96 bytes, written back, and ruled in a sheet. A desk whose
-- code and definitions are wrong alike, refusing everything, writing nothing or copying a sheet's first answer on, fails here. By computation;
-- the bytes were worked out by hand.
use Rattle.std.specs.Prelude.{ℕ, zero, suc, ◌<◌, ◌≡◌, refl, List, [], ◌∷◌, ◌++◌, length}
use Rattle.std.proofs.Common.{arith}
use Rattle.wire.specs.Laid.{row}
use Rattle.wire.specs.Numbers.{bytes, stored, number_at}
use Rattle.wire.specs.Tests.{in_range}
use Rattle.facts.specs.Numbers.{price_of, moment_of}
use Rattle.codes.specs.Codes.{side_of, kind_of, day_of, agreement_of, flag_of}
use Rattle.forms.specs.Forms.{form_of}
use Rattle.record.specs.Record.{trade_of, market_of, request_of, party_at, settlement_of, facts_of}
use Rattle.refusals.specs.Tests.{head_ok, zeros_ok, lists_ok, codes_ok, code_ok, code_byte_ok, prices_ok, quotes_priced, counts_ok, times_ok, limits_ok}
use Rattle.cases.specs.Cases.{refusal_of, accepted, refused, reading_of, write_refusal_of, writing_of}
use Rattle.bands.specs.Table.{band_of}
use Rattle.bands.specs.Amounts.{in_error, moved_by, obvious_adjustment_of}
use Rattle.way.specs.Way.{obvious_open, opening_open, catastrophic_open, way_of}
use Rattle.width.specs.Width.{apart}
use Rattle.theory.specs.Theory.{theory_of}
use Rattle.agreement.specs.Agreed.{in_time, may_nullify, heeded_of}
use Rattle.act.specs.Limits.{opening_tested, opening_stopped}
use Rattle.act.specs.Act.{obvious_act, opening_act, act_of}
use Rattle.ruling.specs.Ruling.{ruled_at, ruled_on, ruled_by, ruling_of}
use Rattle.notices.specs.Records.{ruling_record, shows, shown_code, notice_record, answer_records}
use Rattle.answer.specs.Answer.{case_refusal_of, answer_of, case_of}
use Rattle.forms.specs.Heads.{pairs, known, is_length}
use Rattle.cut.specs.Cut.{begins, case_length, cut_by, cut}
use Rattle.sheet.specs.Sheet.{whole, case_at, refusal_bytes, entry_bytes, ruled_one, ruled_in, whole_cases, sheet_refusal_of, sheet_of}
use Rattle.specimen.specs.Good.{good_case, good_two}
use Rattle.demands.specs.Kinds.{AllKindOne}

-- Trade 7, two Market Makers: a buy of 10 at 2.000, best offer 1.500, filed after 120 s. 2.000 is at least 1.500 + .25, so 1.500 + .15 for
-- reason 6, all 10 contracts. In mills:
abbrev good_answer : List ℕ
good_answer =
    -- the ruling: length, kind, trade; outcome, reason, the offer's origin, zero; TP, new price; contracts adjusted, nullified, standing
    bytes 2 32 ++ bytes 2 16 ++ bytes 4 7 ++ (1 ∷ 6 ∷ 1 ∷ 0 ∷ []) ++ bytes 4 1500 ++ bytes 4 1650 ++ bytes 4 10 ++ bytes 4 0 ++ bytes 4 0
    -- to the buyer: length, kind, trade; outcome, reason, recipient, zero; new price; contracts adjusted, nullified; the seller's code, its own
    ++ bytes 2 32 ++ bytes 2 17 ++ bytes 4 7 ++ (1 ∷ 6 ∷ 1 ∷ 0 ∷ []) ++ bytes 4 1650 ++ bytes 4 10 ++ bytes 4 0 ++ (90 ∷ 88 ∷ 57 ∷ 48 ∷ []) ++ (65 ∷ 66 ∷ 49 ∷ 50 ∷ [])
    -- to the seller, likewise
    ++ bytes 2 32 ++ bytes 2 17 ++ bytes 4 7 ++ (1 ∷ 6 ∷ 2 ∷ 0 ∷ []) ++ bytes 4 1650 ++ bytes 4 10 ++ bytes 4 0 ++ (65 ∷ 66 ∷ 49 ∷ 50 ∷ []) ++ (90 ∷ 88 ∷ 57 ∷ 48 ∷ [])

-- It is accepted.
pub good_accepted : reading_of good_case ≡ accepted (facts_of good_case)
unfolding reading_of refusal_of head_ok zeros_ok lists_ok codes_ok code_ok code_byte_ok prices_ok quotes_priced counts_ok times_ok limits_ok in_range number_at facts_of trade_of market_of request_of party_at settlement_of price_of moment_of side_of kind_of day_of agreement_of flag_of is_length known pairs form_of
good_accepted = refl

-- Its facts are written back in 88 bytes, and they are the record's.
pub good_written : writing_of (facts_of good_case) 88 ≡ (0, good_case)
unfolding writing_of write_refusal_of codes_ok code_ok code_byte_ok prices_ok quotes_priced counts_ok times_ok limits_ok in_range number_at facts_of trade_of market_of request_of party_at settlement_of price_of moment_of side_of kind_of day_of agreement_of flag_of form_of
good_written = refl

-- It is ruled in these 96 bytes.
pub good_ruled : case_of good_case 96 ≡ (0, good_answer)
unfolding case_of case_refusal_of head_ok zeros_ok lists_ok codes_ok code_ok code_byte_ok prices_ok quotes_priced counts_ok times_ok limits_ok in_range number_at facts_of trade_of market_of request_of party_at settlement_of price_of moment_of side_of kind_of day_of agreement_of flag_of band_of in_error moved_by obvious_adjustment_of way_of obvious_open opening_open catastrophic_open theory_of heeded_of in_time may_nullify obvious_act act_of ruled_at ruled_on ruled_by ruling_of ruling_record shows shown_code notice_record answer_records answer_of is_length known pairs form_of
good_ruled = refl

-- ---- the same trade as a case of kind 2, whose permitted differential is 50 mills: the offer of 1.500 is the bid of 1.400 and twice .050, so both
-- quotes are too wide to trust

-- It is accepted, and written back in its 92 bytes.
pub two_accepted : reading_of good_two ≡ accepted (facts_of good_two)
unfolding reading_of refusal_of head_ok zeros_ok lists_ok codes_ok code_ok code_byte_ok prices_ok quotes_priced counts_ok times_ok limits_ok in_range number_at facts_of trade_of market_of request_of party_at settlement_of price_of moment_of side_of kind_of day_of agreement_of flag_of is_length known pairs form_of
two_accepted = refl

pub two_written : writing_of (facts_of good_two) 92 ≡ (0, good_two)
unfolding writing_of write_refusal_of codes_ok code_ok code_byte_ok prices_ok quotes_priced counts_ok times_ok limits_ok in_range number_at facts_of trade_of market_of request_of party_at settlement_of price_of moment_of side_of kind_of day_of agreement_of flag_of form_of
two_written = refl

-- No official gave a price, so it waits (14): no TP, no origin, all 10 contracts stand, and neither notice shows a code.
abbrev waiting_answer : List ℕ
waiting_answer =
    bytes 2 32 ++ bytes 2 16 ++ bytes 4 7 ++ (3 ∷ 14 ∷ 0 ∷ 0 ∷ []) ++ bytes 4 4294967295 ++ bytes 4 4294967295 ++ bytes 4 0 ++ bytes 4 0 ++ bytes 4 10
    ++ bytes 2 32 ++ bytes 2 17 ++ bytes 4 7 ++ (3 ∷ 14 ∷ 1 ∷ 0 ∷ []) ++ bytes 4 4294967295 ++ bytes 4 0 ++ bytes 4 0 ++ bytes 4 0 ++ (65 ∷ 66 ∷ 49 ∷ 50 ∷ [])
    ++ bytes 2 32 ++ bytes 2 17 ++ bytes 4 7 ++ (3 ∷ 14 ∷ 2 ∷ 0 ∷ []) ++ bytes 4 4294967295 ++ bytes 4 0 ++ bytes 4 0 ++ bytes 4 0 ++ (90 ∷ 88 ∷ 57 ∷ 48 ∷ [])

pub two_waits : case_of good_two 96 ≡ (0, waiting_answer)
unfolding case_of case_refusal_of head_ok zeros_ok lists_ok codes_ok code_ok code_byte_ok prices_ok quotes_priced counts_ok times_ok limits_ok in_range number_at facts_of trade_of market_of request_of party_at settlement_of price_of moment_of side_of kind_of day_of agreement_of flag_of band_of in_error moved_by obvious_adjustment_of way_of obvious_open opening_open catastrophic_open theory_of heeded_of in_time may_nullify obvious_act act_of ruled_at ruled_on ruled_by ruling_of ruling_record shows shown_code notice_record answer_records answer_of is_length known pairs form_of apart
two_waits = refl

-- An official's price of 1.600 is then TP: 2.000 is at least 1.600 + .25, so 1.600 + .15 for reason 6, with the origin 2.
abbrev official_answer : List ℕ
official_answer =
    bytes 2 32 ++ bytes 2 16 ++ bytes 4 7 ++ (1 ∷ 6 ∷ 2 ∷ 0 ∷ []) ++ bytes 4 1600 ++ bytes 4 1750 ++ bytes 4 10 ++ bytes 4 0 ++ bytes 4 0
    ++ bytes 2 32 ++ bytes 2 17 ++ bytes 4 7 ++ (1 ∷ 6 ∷ 1 ∷ 0 ∷ []) ++ bytes 4 1750 ++ bytes 4 10 ++ bytes 4 0 ++ (90 ∷ 88 ∷ 57 ∷ 48 ∷ []) ++ (65 ∷ 66 ∷ 49 ∷ 50 ∷ [])
    ++ bytes 2 32 ++ bytes 2 17 ++ bytes 4 7 ++ (1 ∷ 6 ∷ 2 ∷ 0 ∷ []) ++ bytes 4 1750 ++ bytes 4 10 ++ bytes 4 0 ++ (65 ∷ 66 ∷ 49 ∷ 50 ∷ []) ++ (90 ∷ 88 ∷ 57 ∷ 48 ∷ [])

pub two_by_an_official : case_of (stored good_two 40 (bytes 4 1600)) 96 ≡ (0, official_answer)
unfolding case_of case_refusal_of head_ok zeros_ok lists_ok codes_ok code_ok code_byte_ok prices_ok quotes_priced counts_ok times_ok limits_ok in_range number_at facts_of trade_of market_of request_of party_at settlement_of price_of moment_of side_of kind_of day_of agreement_of flag_of band_of in_error moved_by obvious_adjustment_of way_of obvious_open opening_open catastrophic_open theory_of heeded_of in_time may_nullify obvious_act act_of ruled_at ruled_on ruled_by ruling_of ruling_record shows shown_code notice_record answer_records answer_of is_length known pairs form_of apart
two_by_an_official = refl

-- A differential of 51 mills, and the quotes are not wide: the answer is that of kind 1.
abbrev narrow_case : List ℕ
narrow_case = stored good_two 88 (bytes 4 51)

pub two_as_one : case_of narrow_case 96 ≡ (0, good_answer)
unfolding case_of case_refusal_of head_ok zeros_ok lists_ok codes_ok code_ok code_byte_ok prices_ok quotes_priced counts_ok times_ok limits_ok in_range number_at facts_of trade_of market_of request_of party_at settlement_of price_of moment_of side_of kind_of day_of agreement_of flag_of band_of in_error moved_by obvious_adjustment_of way_of obvious_open opening_open catastrophic_open theory_of heeded_of in_time may_nullify obvious_act act_of ruled_at ruled_on ruled_by ruling_of ruling_record shows shown_code notice_record answer_records answer_of is_length known pairs form_of apart
two_as_one = refl

-- ---- a sheet

-- the same without contracts, which fails test 6
abbrev bad_case : List ℕ
bad_case = stored good_case 12 (bytes 4 0)

-- length, kind, index, number, two zeros
abbrev bad_answer : List ℕ
bad_answer = bytes 2 12 ++ bytes 2 18 ++ bytes 4 1 ++ bytes 2 6 ++ bytes 2 0

-- the good record on the opening, 50 contracts bought by a Customer and filed after 1,201 s: repriced to the offer itself for reason 7, and for
-- no more than its size of 30, so that 20 stand
abbrev opening_case : List ℕ
opening_case = stored (stored (stored (stored good_case 12 (bytes 4 50)) 45 (1 ∷ [])) 64 (1 ∷ [])) 72 (bytes 4 35401)

abbrev opening_answer : List ℕ
opening_answer =
    bytes 2 32 ++ bytes 2 16 ++ bytes 4 7 ++ (1 ∷ 7 ∷ 1 ∷ 0 ∷ []) ++ bytes 4 1500 ++ bytes 4 1500 ++ bytes 4 30 ++ bytes 4 0 ++ bytes 4 20
    ++ bytes 2 32 ++ bytes 2 17 ++ bytes 4 7 ++ (1 ∷ 7 ∷ 1 ∷ 0 ∷ []) ++ bytes 4 1500 ++ bytes 4 30 ++ bytes 4 0 ++ (90 ∷ 88 ∷ 57 ∷ 48 ∷ []) ++ (65 ∷ 66 ∷ 49 ∷ 50 ∷ [])
    ++ bytes 2 32 ++ bytes 2 17 ++ bytes 4 7 ++ (1 ∷ 7 ∷ 2 ∷ 0 ∷ []) ++ bytes 4 1500 ++ bytes 4 30 ++ bytes 4 0 ++ (65 ∷ 66 ∷ 49 ∷ 50 ∷ []) ++ (90 ∷ 88 ∷ 57 ∷ 48 ∷ [])

-- A sheet of the three is ruled: 96 bytes for the first case, the refusal record for the second, 96 bytes for the third.
pub good_sheet : sheet_of (good_case ++ bad_case ++ opening_case) 288
    ≡ (record { refusal = 0; written = 204; ruled = 2; refused = 1 }, good_answer ++ bad_answer ++ opening_answer)
unfolding pairs known begins case_length cut_by cut whole sheet_of sheet_refusal_of whole_cases row entry_bytes refusal_bytes ruled_one ruled_in case_at reading_of refused refusal_of head_ok zeros_ok lists_ok codes_ok code_ok code_byte_ok prices_ok quotes_priced counts_ok times_ok limits_ok in_range number_at facts_of trade_of market_of request_of party_at settlement_of price_of moment_of side_of kind_of day_of agreement_of flag_of band_of in_error moved_by obvious_adjustment_of way_of obvious_open opening_open catastrophic_open theory_of heeded_of in_time may_nullify opening_tested opening_stopped obvious_act opening_act act_of ruled_at ruled_on ruled_by ruling_of ruling_record shows shown_code notice_record answer_records answer_of is_length form_of
good_sheet = refl

-- Its cases are all of kind 1: what is said of such sheets (`sheet_as_before`) is said of it.
good_long : (k : ℕ) → k < 3 → length (case_at (good_case ++ bad_case ++ opening_case) k) ≡ 88
unfolding pairs known begins case_length cut_by cut case_at number_at
good_long zero l = refl
good_long (suc zero) l = refl
good_long (suc (suc zero)) l = refl
good_long (suc (suc (suc k))) l = absurd (omega arith)

pub good_kind_one : AllKindOne (good_case ++ bad_case ++ opening_case)
unfolding pairs known begins case_length cut_by cut whole number_at
good_kind_one = (refl, good_long)

-- So is one of both kinds: a case of kind 2 that waits, the good one of kind 1, one of kind 2 that is not wide.
pub mixed_sheet : sheet_of (good_two ++ good_case ++ narrow_case) 288
    ≡ (record { refusal = 0; written = 288; ruled = 3; refused = 0 }, waiting_answer ++ good_answer ++ good_answer)
unfolding pairs known begins case_length cut_by cut whole sheet_of sheet_refusal_of whole_cases row entry_bytes refusal_bytes ruled_one ruled_in case_at reading_of refused refusal_of head_ok zeros_ok lists_ok codes_ok code_ok code_byte_ok prices_ok quotes_priced counts_ok times_ok limits_ok in_range number_at facts_of trade_of market_of request_of party_at settlement_of price_of moment_of side_of kind_of day_of agreement_of flag_of band_of in_error moved_by obvious_adjustment_of way_of obvious_open opening_open catastrophic_open theory_of heeded_of in_time may_nullify opening_tested opening_stopped obvious_act opening_act act_of ruled_at ruled_on ruled_by ruling_of ruling_record shows shown_code notice_record answer_records answer_of is_length form_of apart
mixed_sheet = refl
