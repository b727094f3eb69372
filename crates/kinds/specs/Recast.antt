-- The same facts as those of a case of kind 1 (RULE R12.9).
use Rattle.facts.specs.Numbers.{contracts}
use Rattle.kinds.specs.Words.{None, One, Quote, Market, Facts}

-- with this market
abbrev pub recast : Facts → Market → Facts
recast f m =
    record {
      form = One;
      trade = f.trade;
      market = m;
      request = f.request;
      buyer = f.buyer;
      seller = f.seller;
      settlement = f.settlement;
    }

-- with their own
abbrev pub as_kind_one : Facts → Facts
as_kind_one f = recast f f.market

-- with their own but without its quotes
abbrev pub no_quote : Quote
no_quote = record { price = None; size = contracts 0 }

abbrev pub without_quotes : Facts → Facts
without_quotes f = recast f (record { bid = no_quote; offer = no_quote; official = f.market.official })
