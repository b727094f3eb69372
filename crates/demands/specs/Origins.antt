-- Where TP came from (RULE R5.4, R5.5, R10.1.10, R11.2, R12.7): the origin of every ruling, in the bytes of an answer and in the printed line, and that no
-- notice tells it. Demand 3 stays as it is: the origin is in the ruling record, whose 32 bytes are the same (`Demand3.blind_cases`).
use Rattle.std.specs.Prelude.{ℕ, ◌≡◌, refl, List, [], ◌∷◌, ◌++◌, take}
use Rattle.std.proofs.Common.{append_assoc, eq-eqb}
use contract.Lifetimes.{Lfts}
use Rattle.std.specs.Borrow.{Bor, MutBor}
use Rattle.wire.specs.Numbers.{bytes, elements}
use Rattle.wire.specs.Tests.{in_range}
use Rattle.facts.specs.Numbers.{price_number, price_of}
use Rattle.record.specs.Record.{facts_of}
use Rattle.refusals.specs.Tests.{fault_of, codes_ok, code_ok, code_byte_ok, prices_ok, quotes_priced, counts_ok, times_ok, limits_ok}
use Rattle.cases.specs.Cases.{reading_of}
use Rattle.bands.specs.Table.{band_of}
use Rattle.bands.specs.Amounts.{in_error, moved_by, obvious_adjustment_of}
use Rattle.way.specs.Way.{obvious_open, opening_open, catastrophic_open, way_of}
use Rattle.theory.specs.Theory.{theory_of}
use Rattle.agreement.specs.Agreed.{in_time, may_nullify, heeded_of}
use Rattle.act.specs.Act.{obvious_act, act_of}
use Rattle.ruling.specs.Words.{None, Side, Facts}
use Rattle.ruling.specs.declared.Ruling.{Ruling}
use Rattle.ruling.specs.Ruling.{ruled_at, ruled_on, ruled_by, ruling_of}
use Rattle.ruling.specs.Origins.{tp_of, origin_of, OfQuote, OfOfficial, Without, Exactly}
use Rattle.ruling.proofs.Origins as origins
use Rattle.notices.specs.Records.{ruling_record, notice_record, notice_bytes, answer_records}
use Rattle.answer.specs.Answer.{answer_of}
use Rattle.answer.proofs as answer
use Rattle.sheet.specs.Sheet.{case_at, entry_bytes, entry_of}
use Rattle.text.specs.Text.{decimal_of, price_text}
use Rattle.lines.specs.Lines.{outcome_word, ruled_line}
use Rattle.figures.specs.declared.Figures.{Figures}
use Rattle.figures.specs.Figures.{figures_of}
use Rattle.report.specs.Report.{case_line, line_of}
use Rattle.desk.proofs as desk
use Rattle.demands.specs.Why as why
use Rattle.demands.specs.Edges.{at, buy}

-- ---- of every facts

-- It is 0 exactly where TP is none.
pub none_exactly : (f : Facts) → Exactly (origin_of (ruling_of f) ≡ 0) (tp_of (ruling_of f) ≡ None)
none_exactly = origins.origin_none

-- It is 1 exactly where TP is the price of the side's quote, the offer's for a buy, the bid's for a sell, and the quotes can be trusted.
pub quote_exactly : (f : Facts) → Exactly (origin_of (ruling_of f) ≡ 1) (OfQuote f (ruling_of f))
quote_exactly = origins.origin_quote

-- It is 2 exactly where that quote is none or the quotes are too wide to trust, and TP is the official's price.
pub official_exactly : (f : Facts) → Exactly (origin_of (ruling_of f) ≡ 2) (OfOfficial f (ruling_of f))
official_exactly = origins.origin_official

-- It is 0 exactly for the reasons 2, 3 and 14.
pub reasons_exactly : (f : Facts) → Exactly (origin_of (ruling_of f) ≡ 0) (Without (ruling_of f).reason)
reasons_exactly = origins.origin_reasons

-- ---- in the 96 bytes of an answer

-- Byte 10 of the ruling is the origin, byte 11 zero, and TP stands behind them; bytes 10 and 11 of a notice are its recipient, 1 the buyer and 2 the
-- seller, and zero.
pub record Told (r : Ruling) (a : List ℕ) : Type 0 where
  pub origin : elements 2 a 10 ≡ origin_of r ∷ 0 ∷ []
  pub tp : elements 4 a 12 ≡ bytes 4 (price_number (tp_of r))
  pub buyer : elements 2 a 42 ≡ 1 ∷ 0 ∷ []
  pub seller : elements 2 a 74 ≡ 2 ∷ 0 ∷ []

pub origin_told : (f : Facts) → Told (ruling_of f) (answer_of f)
unfolding answer_of answer_records ruling_record notice_record
origin_told f = record { origin = refl; tp = refl; buyer = refl; seller = refl }

-- ---- no notice tells it

-- A notice is made from the trade, the outcome with its price and counts, the reason and the two codes: rulings that agree in these have the same
-- notices to the same parties, wherever their TP came from.
pub notices_silent : (r q : Ruling) → r.trade ≡ q.trade → r.outcome ≡ q.outcome → r.reason ≡ q.reason
    → (who : Side) (code other : List ℕ) → notice_bytes r who code other ≡ notice_bytes q who code other
unfolding notice_record
notices_silent r q trade outcome reason who code other = rw (trade, outcome, reason)

-- two cases that agree in these
pub record SameNews (f g : Facts) : Type 0 where
  pub trade : (ruling_of f).trade ≡ (ruling_of g).trade
  pub outcome : (ruling_of f).outcome ≡ (ruling_of g).outcome
  pub reason : (ruling_of f).reason ≡ (ruling_of g).reason
  pub buyer : f.buyer.code ≡ g.buyer.code
  pub seller : f.seller.code ≡ g.seller.code

-- So of their answers: the 64 bytes of the two notices are the same.
pub answers_silent : (f g : Facts) → SameNews f g → elements 64 (answer_of f) 32 ≡ elements 64 (answer_of g) 32
unfolding answer_of answer_records ruling_record notice_record
answers_silent f g n = rw (n.trade, n.outcome, n.reason, n.buyer, n.seller)

-- ---- so every call of `rule_case`, or of `desk_rule_case`, that rules a case
module _ (κs : Lfts 2) (s s' : Bor (List ℕ)) (out out' : MutBor (List ℕ)) (n : ℕ) (ruled : n ≡ 0) where
  pub rule_case_told : answer.rule_case.Reads.Post κs (s, (out, tt)) n (s', (out', tt)) → Told (ruling_of (facts_of s.now)) (take 96 out'.now)
  rule_case_told p = rw (why.ruled_bytes_lem s.now out.now out'.now n p ruled) (origin_told (facts_of s.now))

  pub desk_rule_case_told : desk.desk_rule_case.Reads.Post κs (s, (out, tt)) n (s', (out', tt)) → Told (ruling_of (facts_of s.now)) (take 96 out'.now)
  desk_rule_case_told = rule_case_told

-- ---- and every two of them, on cases that agree so
module _ (κs κs' : Lfts 2) (s s' t t' : Bor (List ℕ)) (out out' o o' : MutBor (List ℕ)) (n m : ℕ) (ruled : n ≡ 0) (ruled' : m ≡ 0)
    (news : SameNews (facts_of s.now) (facts_of t.now)) where
  abbrev SameNotices : Type 0
  SameNotices = elements 64 (take 96 out'.now) 32 ≡ elements 64 (take 96 o'.now) 32

  pub rule_case_silent : answer.rule_case.Reads.Post κs (s, (out, tt)) n (s', (out', tt)) → answer.rule_case.Reads.Post κs' (t, (o, tt)) m (t', (o', tt)) → SameNotices
  rule_case_silent p q =
      rw (why.ruled_bytes_lem s.now out.now out'.now n p ruled, why.ruled_bytes_lem t.now o.now o'.now m q ruled') (answers_silent _ _ news)

  pub desk_rule_case_silent : desk.desk_rule_case.Reads.Post κs (s, (out, tt)) n (s', (out', tt)) → desk.desk_rule_case.Reads.Post κs' (t, (o, tt)) m (t', (o', tt)) → SameNotices
  desk_rule_case_silent = rule_case_silent

-- ---- in a sheet: of the entry of every accepted case
pub entry_told : (s : List ℕ) (k : ℕ) → (reading_of (case_at s k)).refusal ≡ 0 → Told (ruling_of (reading_of (case_at s k)).facts) (entry_of s k)
unfolding entry_bytes
entry_told s k e = simp (eq-eqb (reading_of (case_at s k)).refusal 0 e) (origin_told (reading_of (case_at s k)).facts)

-- ---- not empty: a buy at 2.249 with an offer of 1.999, and the same with no offer and an official's price of 1.999. Both are accepted, with the TP
-- 1.999, and repriced to 2.149 for reason 6, with the same notices; only the origin is another.
abbrev pub quoted : Facts
quoted = buy 1999 2249

abbrev pub official : Facts
official =
    record {
      form = quoted.form;
      trade = quoted.trade;
      market = record { bid = quoted.market.bid; offer = quoted.market.bid; official = at 1999 };
      request = quoted.request;
      buyer = quoted.buyer;
      seller = quoted.seller;
      settlement = quoted.settlement;
    }

pub both_accepted : (fault_of quoted ≡ 0) × (fault_of official ≡ 0)
unfolding fault_of codes_ok code_ok code_byte_ok prices_ok quotes_priced counts_ok times_ok limits_ok in_range
both_accepted = (refl, refl)

pub same_but_for_the_origin :
    (origin_of (ruling_of quoted) ≡ 1) × (origin_of (ruling_of official) ≡ 2) × (tp_of (ruling_of quoted) ≡ tp_of (ruling_of official)) × SameNews quoted official
unfolding in_range band_of in_error moved_by obvious_adjustment_of way_of obvious_open opening_open catastrophic_open theory_of heeded_of in_time may_nullify obvious_act act_of ruled_at ruled_on ruled_by ruling_of
same_but_for_the_origin = (refl, refl, refl, record { trade = refl; outcome = refl; reason = refl; buyer = refl; seller = refl })

-- ---- in the printed line: the eight fields that it had, and the origin last

-- fields with one space between them
abbrev spaced : List (List ℕ) → List ℕ
spaced [] = []
spaced (f ∷ []) = f
spaced (f ∷ g ∷ fs) = f ++ (32 ∷ spaced (g ∷ fs))

-- trade, outcome, reason, TP, new price, contracts adjusted, nullified, standing
abbrev eight : Figures → List (List ℕ)
eight n =
    decimal_of n.trade
    ∷ outcome_word n.outcome
    ∷ decimal_of n.reason
    ∷ price_text (price_of n.tp)
    ∷ price_text (price_of n.price)
    ∷ decimal_of n.adjusted
    ∷ decimal_of n.nullified
    ∷ decimal_of n.standing
    ∷ []

pub from_last : (n : Figures) → ruled_line n ≡ spaced (eight n) ++ (32 ∷ decimal_of n.origin ++ (10 ∷ []))
unfolding ruled_line
from_last n = simp append_assoc

-- So in the report of a sheet, of every accepted case.
pub line_told : (s : List ℕ) (k : ℕ) → (reading_of (case_at s k)).refusal ≡ 0
    → let r = ruling_of (reading_of (case_at s k)).facts in line_of s k ≡ spaced (eight (figures_of r)) ++ (32 ∷ decimal_of (origin_of r) ++ (10 ∷ []))
unfolding case_line
line_told s k e =
    simp (eq-eqb (reading_of (case_at s k)).refusal 0 e) (from_last (figures_of (ruling_of (reading_of (case_at s k)).facts)))
