-- The limits that an act tests, and whether the price that it would set violates one (RULE R8.3.2, R8.3.3 and R8.4.2;
-- document 000, struck (a)(3)(C) and (D); document 002, (d)(3)(B)).
use Rattle.std.specs.Prelude.{Bool, ◌&&◌, ◌||◌}
use Rattle.wire.specs.Tests.{pick}
use Rattle.facts.specs.Limits.{violates}
use Rattle.parties.specs.Parties.{is_customer, is_maker, by_side}
use Rattle.act.specs.Words.{Mills, Side, Buy, Sell, Kind, Party}

abbrev pub other_side : Side → Side
other_side Buy = Sell
other_side Sell = Buy

-- The opening way tests one limit: that of the Customer in error if the other party is a Market Maker, else the other party's.
unfoldable pub opening_tested : Side → Kind → Kind → Side
opening_tested side buyer seller = pick (is_maker (by_side side seller buyer)) side (other_side side)

-- TP violates that limit.
unfoldable pub opening_stopped : Side → Party → Party → Mills → Bool
opening_stopped side buyer seller tp =
    let tested = opening_tested side buyer.kind seller.kind in violates tested (by_side tested buyer.limit seller.limit) tp

-- The party on this side is a Customer, and the price violates its limit. No limit of anyone else counts.
abbrev pub customer_stopped : Side → Party → Mills → Bool
customer_stopped side party price = is_customer party.kind && violates side party.limit price

-- The catastrophic way tests the limit of each party who is a Customer.
unfoldable pub catastrophic_stopped : Party → Party → Mills → Bool
catastrophic_stopped buyer seller price = customer_stopped Buy buyer price || customer_stopped Sell seller price
