-- The act, where no agreement counts (RULE R8). Limits come in as a yes or no: whether one stopped the price.
use Rattle.std.specs.Prelude.{ℕ, Bool}
use Rattle.wire.specs.Tests.{pick}
use Rattle.bands.specs.Amounts.{obvious_adjustment_of, moved_by}
use Rattle.parties.specs.Parties.{is_maker, by_side, any_customer}
use Rattle.act.specs.Words.{Mills, Side, Party, Band, Way, Obvious, Opening, Catastrophic, Act, Adjust, Nullify, Leave}
use Rattle.act.specs.Limits.{opening_stopped, catastrophic_stopped}

-- adjusted to a price, for a reason
abbrev pub adjust_to : ℕ → Mills → Act
adjust_to reason price = Adjust (record { reason = reason; price = price })

-- Obvious: a trade with a Customer is nullified (11), any other adjusted (6) (RULE R8.2; document 000, struck (a)(3)(A) and (B)).
unfoldable pub obvious_act : Bool → Mills → Act
obvious_act customer price = pick customer (Nullify 11) (adjust_to 6 price)

-- Opening: adjusted to TP itself (7), unless a limit stops it: the Customer's where the other party is a Market Maker (4), else
-- the other party's (5) (RULE R8.3; document 000, struck (a)(3)(C) and (D)).
unfoldable pub opening_act : Bool → Bool → Mills → Act
opening_act stopped maker tp = pick stopped (pick maker (Leave 4) (Leave 5)) (adjust_to 7 tp)

-- Catastrophic: adjusted (8), unless a Customer's limit stops it: then adjusted all the same (9) where that was accepted in time,
-- and nullified (12) where it was not (RULE R8.4; document 002, (d)(3)(B)).
unfoldable pub catastrophic_act : Bool → Bool → Mills → Act
catastrophic_act stopped accepted price = pick stopped (pick accepted (adjust_to 9 price) (Nullify 12)) (adjust_to 8 price)

-- the price of the obvious way: TP plus (buy) or minus (sell) the obvious adjustment (RULE R8.2.1)
abbrev pub obvious_price : Side → Mills → Mills
obvious_price side tp = moved_by side tp (obvious_adjustment_of tp)

-- the price of the catastrophic way: TP plus (buy) or minus (sell) the row's adjustment (RULE R8.4.1; document 002, (d)(3)(C))
abbrev pub catastrophic_price : Side → Mills → Band → Mills
catastrophic_price side tp band = moved_by side tp band.adjustment

-- The act on a trade in error, by its way.
unfoldable pub act_of : Way → Side → Party → Party → Bool → Mills → Band → Act
act_of Obvious side buyer seller accepted tp band = obvious_act (any_customer buyer.kind seller.kind) (obvious_price side tp)
act_of Opening side buyer seller accepted tp band =
    opening_act (opening_stopped side buyer seller tp) (is_maker (by_side side seller.kind buyer.kind)) tp
act_of Catastrophic side buyer seller accepted tp band =
    catastrophic_act (catastrophic_stopped buyer seller (catastrophic_price side tp band)) accepted (catastrophic_price side tp band)
