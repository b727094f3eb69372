-- Demand 3 at the ruling: the price that a party's limit is tested against, and a case with another code and limit for one party
-- (RULE R12.5.3: the tested limits count only when that act is reached).
use Rattle.std.specs.Prelude.{ℕ, List}
use Rattle.wire.specs.Tests.{pick}
use Rattle.bands.specs.Table.{band_of}
use Rattle.bands.specs.Amounts.{in_error}
use Rattle.parties.specs.Parties.{by_side, any_customer}
use Rattle.way.specs.Way.{way_of}
use Rattle.theory.specs.Theory.{theory_of}
use Rattle.agreement.specs.Agreed.{heeded_of}
use Rattle.act.specs.Minimum.{minimum_of}
use Rattle.act.specs.Tested.{tested_at, altered}
use Rattle.alike.specs.Words.{Price, None, Side, Buy, Sell, Facts, Way, Obvious, Opening, Catastrophic, Open, Some, Source, Theory, Heeded, Ignored, Repriced, Undone}

-- the act is not reached where an agreement counts
abbrev pub tested_under : Facts → Way → Source → Side → Heeded → Price
tested_under f way s who (Repriced price) = None
tested_under f way s who Undone = None
tested_under f way s who Ignored = tested_at way f.request.side f.buyer.kind f.seller.kind s.price (band_of s.price) who

-- nor where the trade is not in error, nor where there is no TP
abbrev pub tested_from : Facts → Way → Side → Theory → Price
tested_from f way who (Some s) =
    pick (in_error f.request.side f.trade.price s.price (minimum_of way (band_of s.price)))
    (tested_under f way s who (heeded_of f.settlement way (any_customer f.buyer.kind f.seller.kind)))
    None
tested_from f way who None = None

abbrev pub tested_on : Facts → Side → Way → Price
tested_on f who way = tested_from f way who (theory_of f.form f.request.side f.market)

-- nor on the catastrophic way where a panel has already decided, nor where no way is open
abbrev pub tested_by : Facts → Side → Way → Price
tested_by f who Obvious = tested_on f who Obvious
tested_by f who Opening = tested_on f who Opening
tested_by f who Catastrophic = pick f.request.decided None (tested_on f who Catastrophic)

abbrev pub tested_if : Facts → Side → Open → Price
tested_if f who (Some way) = tested_by f who way
tested_if f who None = None

-- The price that the limit of the party on side `who` is tested against in the ruling on these facts; none where it is not tested.
-- No limit and no code is read to find it.
unfoldable pub tested_in : Facts → Side → Price
tested_in f who = tested_if f who (way_of f.trade.executed f.request (by_side f.request.side f.buyer.kind f.seller.kind))

-- The same facts with another code and limit of the party on side `who`.
abbrev pub altered_facts : Facts → Side → List ℕ → Price → Facts
altered_facts f who code limit =
    record {
      form = f.form;
      trade = f.trade;
      market = f.market;
      request = f.request;
      buyer = altered who code limit Buy f.buyer;
      seller = altered who code limit Sell f.seller;
      settlement = f.settlement;
    }
