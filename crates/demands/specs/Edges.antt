-- The starred edges (RULE R14.1 to R14.10), each with the origin of its TP, all in one statement over a list. Unless said: obvious way, no Customer, limit or
-- agreement, bytes 46 and 47 at 0.
use Rattle.std.specs.Prelude.{ℕ, ◌+◌, ◌≡◌, refl, false, List, [], ◌∷◌, map}
use Rattle.wire.specs.Numbers.{number_at}
use Rattle.wire.specs.Tests.{in_range}
use Rattle.facts.specs.Numbers.{mills, contracts, seconds, price_number, price_of, moment_of}
use Rattle.codes.specs.Codes.{side_of, kind_of, day_of, agreement_of, flag_of}
use Rattle.forms.specs.Words.{One}
use Rattle.ruling.specs.Words.{Price, Some, None, Moment, Side, Buy, Sell, Kind, Customer, MarketMaker, Day, TradeDate, Later, NotMade, Quote, Market, Facts}
use Rattle.ruling.specs.declared.Counts.{Counts}
use Rattle.forms.specs.Heads.{pairs, is_length, known}
use Rattle.forms.specs.Forms.{form_of}
use Rattle.record.specs.Record.{trade_of, market_of, request_of, party_at, settlement_of, facts_of, record_bytes}
use Rattle.refusals.specs.Tests.{head_ok, zeros_ok, lists_ok, fault_of, codes_ok, code_ok, code_byte_ok, prices_ok, quotes_priced, counts_ok, times_ok, limits_ok}
use Rattle.bands.specs.Table.{band_of}
use Rattle.bands.specs.Amounts.{in_error, moved_by, obvious_adjustment_of}
use Rattle.way.specs.Way.{obvious_open, opening_open, catastrophic_open, way_of}
use Rattle.theory.specs.Theory.{theory_of, theory_price, theory_origin}
use Rattle.agreement.specs.Agreed.{in_time, may_nullify, heeded_of}
use Rattle.act.specs.Limits.{opening_tested, opening_stopped, catastrophic_stopped}
use Rattle.act.specs.Act.{obvious_act, opening_act, catastrophic_act, act_of}
use Rattle.ruling.specs.Ruling.{ruled_at, ruled_on, ruled_by, ruling_of}
use Rattle.ruling.specs.Outcomes.{outcome_number, new_price, counts_of}
use Rattle.notices.specs.Records.{ruling_record, shows, shown_code, notice_record, answer_records}
use Rattle.answer.specs.Answer.{case_refusal_of, answer_of, case_of}

-- ---- the cases: 10 contracts executed at 9:30:00; the market shows one quote for 20, on the side that is looked at, or none
abbrev quoted : Price → Quote
quoted (Some p) = record { price = Some p; size = contracts 20 }
quoted None = record { price = None; size = contracts 0 }

abbrev market : Side → Price → Market
market Buy q = record { bid = quoted None; offer = quoted q; official = None }
market Sell q = record { bid = quoted q; offer = quoted None; official = None }

-- side in error, quote, execution, buyer's kind, filing day and seconds after execution, buyer's limit, acceptance; the seller is a Market Maker
abbrev case : Side → Price → ℕ → Kind → Day → ℕ → Price → Moment → Facts
case side quote execution buyer day after limit accepted =
    record {
      form = One;
      trade = record { number = 1; price = mills execution; contracts = contracts 10; executed = seconds 34200 };
      market = market side quote;
      request = record { side = side; opening = false; expiry = false; decided = false; day = day; filed = seconds (34200 + after) };
      buyer = record { code = 65 ∷ 66 ∷ 49 ∷ 50 ∷ []; limit = limit; kind = buyer };
      seller = record { code = 90 ∷ 88 ∷ 57 ∷ 48 ∷ []; limit = None; kind = MarketMaker };
      settlement = record { agreement = NotMade; agreed = None; made = seconds 0; accepted = accepted };
    }

abbrev pub at : ℕ → Price
at n = Some (mills n)

-- two Market Makers, filed on day 0 after so many seconds
abbrev filed : ℕ → Side → ℕ → ℕ → Facts
filed after side quote execution = case side (at quote) execution MarketMaker TradeDate after None None

abbrev pub buy : ℕ → ℕ → Facts
buy offer execution = filed 120 Buy offer execution

abbrev sell : ℕ → ℕ → Facts
sell bid execution = filed 120 Sell bid execution

-- the catastrophic way: a sell by a Market Maker, filed after 1,201 s, bought by a Customer with a limit of 6.500
abbrev pub to_customer : ℕ → ℕ → Moment → Facts
to_customer bid execution accepted = case Sell (at bid) execution Customer TradeDate 1201 (at 6500) accepted

-- no quote and no official's price
abbrev unquoted : Day → Facts
unquoted day = case Buy None 2000 MarketMaker day 120 None None

-- ---- an edge: a case, and what the desk makes of it
record Edge : Type 0 where
  facts : Facts
  refusal : ℕ
  outcome : ℕ
  reason : ℕ
  origin : ℕ
  tp : Price
  new : Price
  counts : Counts

abbrev edge : Facts → ℕ → ℕ → ℕ → Price → Price → Counts → Edge
edge f outcome reason origin tp new counts =
    record { facts = f; refusal = 0; outcome = outcome; reason = reason; origin = origin; tp = tp; new = new; counts = counts }

abbrev all : ℕ → ℕ → ℕ → Counts
all adjusted nullified standing = record { adjusted = contracts adjusted; nullified = contracts nullified; standing = contracts standing }

-- the quote's origin, 1, wherever there is a TP
abbrev stands : Facts → ℕ → Edge
stands f tp = edge f 0 1 1 (at tp) None (all 0 0 10)

abbrev becomes : Facts → ℕ → ℕ → ℕ → Edge
becomes f reason tp price = edge f 1 reason 1 (at tp) (at price) (all 10 0 0)

abbrev undone : Facts → ℕ → ℕ → Edge
undone f reason tp = edge f 2 reason 1 (at tp) None (all 0 10 0)

-- what the definitions make of the case of an edge
abbrev ruled : Edge → Edge
ruled e =
    let r = ruling_of e.facts in
    record {
      facts = e.facts;
      refusal = fault_of e.facts;
      outcome = outcome_number r.outcome;
      reason = r.reason;
      origin = theory_origin r.tp;
      tp = theory_price r.tp;
      new = new_price r.outcome;
      counts = counts_of r.outcome;
    }

abbrev edges : List Edge
edges =
    -- buy, offer 1.999: 2.248 is no error; 2.249 becomes 2.149
    stands (buy 1999 2248) 1999
    ∷ becomes (buy 1999 2249) 6 1999 2149
    -- buy, offer 2.000: 2.399 is no error; 2.400 becomes 2.150
    ∷ stands (buy 2000 2399) 2000
    ∷ becomes (buy 2000 2400) 6 2000 2150
    -- sell, bid 2.999: 2.599 becomes 2.849; bid 3.000: 2.600 becomes 2.700
    ∷ becomes (sell 2999 2599) 6 2999 2849
    ∷ becomes (sell 3000 2600) 6 3000 2700
    -- buy, offer 5.001: 5.500 is no error; 5.501 becomes 5.301
    ∷ stands (buy 5001 5500) 5001
    ∷ becomes (buy 5001 5501) 6 5001 5301
    -- buy, offer 20.000: 20.800 becomes 20.300; offer 20.001: 20.801 is no error
    ∷ becomes (buy 20000 20800) 6 20000 20300
    ∷ stands (buy 20001 20801) 20001
    -- sell, bid 0.200 at 0.000: no error
    ∷ stands (sell 200 0) 200
    -- a Market Maker, offer 1.999 at 2.249: after 300 s adjusted; after 301 s no error (1), and not late (2)
    ∷ becomes (filed 300 Buy 1999 2249) 6 1999 2149
    ∷ stands (filed 301 Buy 1999 2249) 1999
    -- catastrophic way, sell, bid 12.000 at 7.000: the new price is 7.000
    ∷ becomes (filed 1201 Sell 12000 7000) 8 12000 7000
    -- the same at 6.000, a Customer buyer's limit 6.500: nullified; accepted after 1,800 s adjusted to 7.000; after 1,801 s nullified
    ∷ undone (to_customer 12000 6000 None) 12 12000
    ∷ becomes (to_customer 12000 6000 (Some (seconds 1800))) 9 12000 7000
    ∷ undone (to_customer 12000 6000 (Some (seconds 1801))) 12 12000
    -- no quote and no official's price: waiting (14) where a way is open, late (2) where none is
    ∷ edge (unquoted TradeDate) 3 14 0 None None (all 0 0 10)
    ∷ edge (unquoted Later) 0 2 0 None None (all 0 0 10)
    ∷ []

-- Each is accepted and has just that ruling.
pub edges_met : map ruled edges ≡ edges
unfolding fault_of codes_ok code_ok code_byte_ok prices_ok quotes_priced counts_ok times_ok limits_ok in_range band_of in_error moved_by obvious_adjustment_of way_of obvious_open opening_open catastrophic_open theory_of heeded_of in_time may_nullify opening_tested opening_stopped catastrophic_stopped obvious_act opening_act catastrophic_act act_of ruled_at ruled_on ruled_by ruling_of
edges_met = refl

-- ---- the same in bytes: the record of each is accepted and answered with that ruling's 96 bytes

-- what the desk makes of the record of an edge, with a buffer of 96 bytes
abbrev given : Edge → ℕ × List ℕ
given e = case_of (record_bytes e.facts) 96

-- the ruling and the notices with the numbers of the edge
abbrev expected : Edge → ℕ × List ℕ
expected e = (
  0,
  answer_records
      (record {
        trade = 1;
        outcome = e.outcome;
        reason = e.reason;
        origin = e.origin;
        tp = price_number e.tp;
        price = price_number e.new;
        adjusted = e.counts.adjusted.0;
        nullified = e.counts.nullified.0;
        standing = e.counts.standing.0;
      })
      (65 ∷ 66 ∷ 49 ∷ 50 ∷ []) (90 ∷ 88 ∷ 57 ∷ 48 ∷ []),
)

pub edges_answered : map given edges ≡ map expected edges
unfolding fault_of codes_ok code_ok code_byte_ok prices_ok quotes_priced counts_ok times_ok limits_ok in_range band_of in_error moved_by obvious_adjustment_of way_of obvious_open opening_open catastrophic_open theory_of heeded_of in_time may_nullify opening_tested opening_stopped catastrophic_stopped obvious_act opening_act catastrophic_act act_of ruled_at ruled_on ruled_by ruling_of case_of case_refusal_of head_ok zeros_ok lists_ok number_at facts_of trade_of market_of request_of party_at settlement_of price_of moment_of side_of kind_of day_of agreement_of flag_of answer_of ruling_record shows shown_code notice_record answer_records is_length known pairs form_of
edges_answered = refl
