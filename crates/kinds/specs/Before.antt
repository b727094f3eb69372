-- The desk before request L4 (RULE R12.8), which knew one kind of case: each definition that the request changed, as it was. None looks at the
-- form of a record.
use Rattle.std.specs.Prelude.{ℕ, zero, suc, ◌+◌, ◌-◌, ◌*◌, ◌/◌, ◌%◌, Bool, ◌&&◌, List, [], ◌∷◌, length, take, drop, leb, eqb}
use Rattle.wire.specs.Numbers.{number_at}
use Rattle.wire.specs.Laid.{row}
use Rattle.wire.specs.Tests.{pick, first_failed}
use Rattle.record.specs.Record.{facts_of}
use Rattle.refusals.specs.Tests.{zeros_ok, lists_ok, codes_ok, mills_ok, price_ok, quotes_priced, counts_ok, times_ok, limits_ok, agreement_ok}
use Rattle.parties.specs.Parties.{by_side}
use Rattle.way.specs.Way.{way_of}
use Rattle.theory.specs.Theory.{quote_for, source_of}
use Rattle.ruling.specs.Ruling.{no_relief, ruled_from}
use Rattle.notices.specs.Records.{answer_bytes}
use Rattle.sheet.specs.Sheet.{refusal_bytes, refused_whole}
use Rattle.kinds.specs.Words.{Side, Market, Facts, Way, Obvious, Opening, Catastrophic, Open, Some, None, Theory, Ruling, SheetAnswer}

-- ---- the tests: 1, 88 bytes; 2, length 88 and kind 1; 5, without a differential
abbrev pub length_before : List ℕ → Bool
length_before s = eqb (length s) 88

abbrev pub head_before : List ℕ → Bool
head_before s = eqb (number_at 2 s 0) 88 && eqb (number_at 2 s 2) 1

abbrev pub prices_before : Facts → Bool
prices_before f =
    mills_ok f.trade.price
    && quotes_priced f.market
    && price_ok f.buyer.limit
    && price_ok f.seller.limit
    && price_ok f.settlement.agreed

-- 2 to 9, in their order
abbrev pub tests_before : List ℕ → Facts → List (ℕ × Bool)
tests_before s f =
    (2, head_before s)
    ∷ (3, zeros_ok s && lists_ok s)
    ∷ (4, codes_ok f.buyer f.seller)
    ∷ (5, prices_before f)
    ∷ (6, counts_ok f.trade f.market)
    ∷ (7, times_ok f.trade f.request f.settlement)
    ∷ (8, limits_ok f.trade f.buyer f.seller)
    ∷ (9, agreement_ok f.settlement.agreement f.settlement.agreed f.settlement.made)
    ∷ []

-- ---- the theoretical price: the side's quote, or the official's where that is none
abbrev pub theory_before : Side → Market → Theory
theory_before side m = source_of (quote_for side m).price (quote_for side m).size m.official

-- ---- the steps up to it; those behind it are the same
abbrev pub ruled_on_before : Facts → Way → Ruling
ruled_on_before f way = ruled_from f way (theory_before f.request.side f.market)

abbrev pub ruled_by_before : Facts → Way → Ruling
ruled_by_before f Obvious = ruled_on_before f Obvious
ruled_by_before f Opening = ruled_on_before f Opening
ruled_by_before f Catastrophic = pick f.request.decided (no_relief f.trade 3 None) (ruled_on_before f Catastrophic)

abbrev pub ruled_if_before : Facts → Open → Ruling
ruled_if_before f (Some way) = ruled_by_before f way
ruled_if_before f None = no_relief f.trade 2 None

unfoldable pub ruling_before : Facts → Ruling
ruling_before f = ruled_if_before f (way_of f.trade.executed f.request (by_side f.request.side f.buyer.kind f.seller.kind))

abbrev pub answer_before : Facts → List ℕ
answer_before f = answer_bytes (ruling_before f) f.buyer.code f.seller.code

-- ---- a case ruled by itself: 1, 11, then 2 to 9; the number, with the bytes that are written
abbrev pub case_number_before : List ℕ → ℕ → ℕ
case_number_before s room = first_failed ((1, length_before s) ∷ (11, leb 96 room) ∷ tests_before s (facts_of s))

unfoldable pub case_before : List ℕ → ℕ → ℕ × List ℕ
case_before s room = pick (eqb (case_number_before s room) 0) (0, answer_before (facts_of s)) (case_number_before s room, [])

-- ---- and in a sheet that is ruled: its answer, or its refusal record
abbrev pub number_before : List ℕ → ℕ
number_before s = first_failed ((1, length_before s) ∷ tests_before s (facts_of s))

unfoldable pub entry_before : ℕ → List ℕ → List ℕ
entry_before index s = pick (eqb (number_before s) 0) (answer_before (facts_of s)) (refusal_bytes index (number_before s))

-- ---- a sheet: case k begins at 88 · k, and it is whole where its length is a number of them
abbrev pub case_at_before : List ℕ → ℕ → List ℕ
case_at_before s k = take 88 (drop (k * 88) s)

abbrev pub cases_before : List ℕ → ℕ
cases_before s = length s / 88

abbrev pub row_before : List ℕ → ℕ → List ℕ
row_before s n = row (λ k. entry_before k (case_at_before s k)) n

unfoldable pub ruled_in_before : List ℕ → ℕ → ℕ
ruled_in_before s zero = 0
ruled_in_before s (suc k) = ruled_in_before s k + pick (eqb (number_before (case_at_before s k)) 0) 1 0

-- 10, then 11, then each case
abbrev pub whole_before : List ℕ → Bool
whole_before s = eqb (length s % 88) 0 && leb (length s) 52800

abbrev pub sheet_number_before : List ℕ → ℕ → ℕ
sheet_number_before s room = first_failed ((10, whole_before s) ∷ (11, leb (cases_before s * 96) room) ∷ [])

abbrev pub ruled_before : List ℕ → ℕ → SheetAnswer × List ℕ
ruled_before s n =
    (record { refusal = 0; written = length (row_before s n); ruled = ruled_in_before s n; refused = n - ruled_in_before s n }, row_before s n)

unfoldable pub sheet_before : List ℕ → ℕ → SheetAnswer × List ℕ
sheet_before s room = pick (eqb (sheet_number_before s room) 0) (ruled_before s (cases_before s)) (refused_whole (sheet_number_before s room))
