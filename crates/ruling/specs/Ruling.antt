-- The ruling on a case (RULE R1.8): each step of the page under its own name, in the page's order.
use Rattle.std.specs.Prelude.{ℕ}
use Rattle.wire.specs.Tests.{pick}
use Rattle.bands.specs.Table.{band_of}
use Rattle.bands.specs.Amounts.{in_error}
use Rattle.parties.specs.Parties.{by_side, any_customer}
use Rattle.way.specs.Way.{way_of}
use Rattle.theory.specs.Theory.{theory_of}
use Rattle.agreement.specs.Agreed.{heeded_of, accepted_in_time}
use Rattle.act.specs.Minimum.{minimum_of}
use Rattle.act.specs.Act.{act_of}
use Rattle.ruling.specs.Words.{Mills, Trade, Facts, Way, Obvious, Opening, Catastrophic, Open, Some, None, Source, Theory, Heeded, Ignored, Repriced, Undone, Act, Adjust, Nullify, Leave, NoRelief, Adjusted, Nullified, Waiting, Ruling}
use Rattle.ruling.specs.Counts.{covered, all_stand, all_nullified, some_adjusted}

-- ---- the four outcomes, each for a reason, with TP and its origin as they were found

abbrev pub no_relief : Trade → ℕ → Theory → Ruling
no_relief t reason tp = record { trade = t.number; outcome = NoRelief (all_stand t.contracts); reason = reason; tp = tp }

-- 14: no price to go by (RULE R5.3)
abbrev pub waiting : Trade → Ruling
waiting t = record { trade = t.number; outcome = Waiting (all_stand t.contracts); reason = 14; tp = None }

abbrev pub nullify : Trade → ℕ → Source → Ruling
nullify t reason s = record { trade = t.number; outcome = Nullified (all_nullified t.contracts); reason = reason; tp = Some s }

abbrev pub adjust : Trade → Way → Source → ℕ → Mills → Ruling
adjust t way s reason price =
    record {
      trade = t.number;
      outcome = Adjusted (record { price = price; counts = some_adjusted t.contracts (covered way s.origin t.contracts) });
      reason = reason;
      tp = Some s;
    }

-- ---- then the act: an act becomes its ruling (RULE R8)
abbrev pub carried_out : Trade → Way → Source → Act → Ruling
carried_out t way s (Adjust c) = adjust t way s c.reason c.price
carried_out t way s (Nullify reason) = nullify t reason s
carried_out t way s (Leave reason) = no_relief t reason (Some s)

-- ---- then agreement: on a price, adjusted to it (10), limits not tested; to nullify, nullified (13); any other is ignored, and the act follows
abbrev pub settled : Facts → Way → Source → Heeded → Ruling
settled f way s (Repriced price) = adjust f.trade way s 10 price
settled f way s Undone = nullify f.trade 13 s
settled f way s Ignored =
    carried_out f.trade way s
    (act_of way f.request.side f.buyer f.seller (accepted_in_time f.settlement.accepted) s.price (band_of s.price))

-- ---- then the error: by at least the way's minimum in the row for TP, else no relief (1) (RULE R6)
unfoldable pub ruled_at : Facts → Way → Source → Ruling
ruled_at f way s =
    pick (in_error f.request.side f.trade.price s.price (minimum_of way (band_of s.price)))
    (settled f way s (heeded_of f.settlement way (any_customer f.buyer.kind f.seller.kind)))
    (no_relief f.trade 1 (Some s))

-- ---- then the theoretical price, by the form of the record: where there is none the case waits (14) (RULE R5)
abbrev pub ruled_from : Facts → Way → Theory → Ruling
ruled_from f way (Some s) = ruled_at f way s
ruled_from f way None = waiting f.trade

unfoldable pub ruled_on : Facts → Way → Ruling
ruled_on f way = ruled_from f way (theory_of f.form f.request.side f.market)

-- ---- first the way: on the catastrophic way a panel that has already decided ends it (3); where none is open, no relief (2); neither has a TP,
-- whatever quotes stand in the record (RULE R4.4, R4.5, R10.1.12)
unfoldable pub ruled_by : Facts → Way → Ruling
ruled_by f Obvious = ruled_on f Obvious
ruled_by f Opening = ruled_on f Opening
ruled_by f Catastrophic = pick f.request.decided (no_relief f.trade 3 None) (ruled_on f Catastrophic)

abbrev pub ruled_if : Facts → Open → Ruling
ruled_if f (Some way) = ruled_by f way
ruled_if f None = no_relief f.trade 2 None

unfoldable pub ruling_of : Facts → Ruling
ruling_of f = ruled_if f (way_of f.trade.executed f.request (by_side f.request.side f.buyer.kind f.seller.kind))
