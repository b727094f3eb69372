-- A case filled with the best bid and offer (RULE R16.10 to R16.12): which numbers it may get, what its facts become, and its bytes; and how many quotes
-- are read for it (RULE R16.24).
use Rattle.std.specs.Prelude.{ℕ, List, eqb}
use Rattle.wire.specs.Numbers.{bytes, stored}
use Rattle.wire.specs.Tests.{pick}
use Rattle.facts.specs.Numbers.{price_number}
use Rattle.record.specs.Record.{facts_of}
use Rattle.cases.specs.Cases.{refusal_of}
use Rattle.earlier.specs.Earlier.{quotes_before_of}
use Rattle.best.specs.Found.{found_of}
use Rattle.best.specs.Looked.{looked_of}
use Rattle.filling.specs.Words.{Quote, Facts, Found, Looked, Tried}

-- ---- the facts: this bid and this offer, everything else as it was
abbrev pub quoted : Facts → Quote → Quote → Facts
quoted f bid offer =
    record {
      form = f.form;
      trade = f.trade;
      market = record { bid = bid; offer = offer; official = f.market.official };
      request = f.request;
      buyer = f.buyer;
      seller = f.seller;
      settlement = f.settlement;
    }

-- ---- the bytes: 20 bid, 24 offer, 28 bid size, 32 offer size; every other byte stays
unfoldable pub filled : List ℕ → Quote → Quote → List ℕ
filled s bid offer =
    stored (stored (stored (stored s 20 (bytes 4 (price_number bid.price))) 24 (bytes 4 (price_number offer.price))) 28 (bytes 4 bid.size.0)) 32
    (bytes 4 offer.size.0)

-- ---- what is found at the case's own execution time
abbrev pub found_for : List ℕ → List ℕ → Found
found_for quotes s = found_of quotes (facts_of s).trade.executed.0

-- ---- the case is tested as reading does, then the quotes
unfoldable pub fill_refusal_of : List ℕ → List ℕ → ℕ
fill_refusal_of quotes s = pick (eqb (refusal_of s) 0) (found_for quotes s).refusal (refusal_of s)

-- the number, with what the case's bytes become: beside a refusal what they were
unfoldable pub filling_of : List ℕ → List ℕ → ℕ × List ℕ
filling_of quotes s =
    pick (eqb (fill_refusal_of quotes s) 0) (0, filled s (found_for quotes s).bid (found_for quotes s).offer) (fill_refusal_of quotes s, s)

-- ---- how many quotes are read: those of the lookup at the case's own execution time, with their own number; beside a refusal none
abbrev pub looked_for : List ℕ → List ℕ → Looked
looked_for quotes s = let t = (facts_of s).trade.executed.0 in looked_of quotes t (quotes_before_of quotes t)

unfoldable pub fill_read_of : List ℕ → List ℕ → ℕ
fill_read_of quotes s = pick (eqb (refusal_of s) 0) (looked_for quotes s).examined 0

-- what filling would answer, before anything is written
abbrev pub tried_of : List ℕ → List ℕ → Tried
tried_of quotes s = record { refusal = (filling_of quotes s).0; examined = fill_read_of quotes s }
