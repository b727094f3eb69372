-- Demand 3 at the act: the price that a party's limit is tested against, and a trade with another code and limit for one party
-- (RULE R12.5).
use Rattle.std.specs.Prelude.{ℕ, ◌≡◌, Bool, true, false, List}
use Rattle.wire.specs.Tests.{pick}
use Rattle.facts.specs.Limits.{violates}
use Rattle.parties.specs.Parties.{is_customer, by_side}
use Rattle.act.specs.Words.{Mills, Price, Some, None, Side, Buy, Sell, Kind, Party, Band, Way, Obvious, Opening, Catastrophic}
use Rattle.act.specs.Limits.{opening_tested}
use Rattle.act.specs.Act.{catastrophic_price}
use Rattle.act.specs.Numbers.{IfPriced}

abbrev pub same_side : Side → Side → Bool
same_side Buy Buy = true
same_side Buy Sell = false
same_side Sell Buy = false
same_side Sell Sell = true

-- The price that the limit of the party on side `who` is tested against, or none where the act does not test it. On the opening way
-- TP, for the Customer in error if the other party is a Market Maker, else for the other party; on the catastrophic way TP plus or
-- minus the adjustment, for each Customer; on the obvious way none. It is found without a limit or a code.
unfoldable pub tested_at : Way → Side → Kind → Kind → Mills → Band → Side → Price
tested_at Obvious side buyer seller tp band who = None
tested_at Opening side buyer seller tp band who = pick (same_side who (opening_tested side buyer seller)) (Some tp) None
tested_at Catastrophic side buyer seller tp band who = pick (is_customer (by_side who buyer seller)) (Some (catastrophic_price side tp band)) None

-- The party p on side `here`, with this code and limit if `who` is that side, and as it was if not.
abbrev pub altered : Side → List ℕ → Price → Side → Party → Party
altered who code limit here p =
    record { code = pick (same_side who here) code p.code; limit = pick (same_side who here) limit p.limit; kind = p.kind }

-- The price that is tested violates both limits of the party on side `who`, or neither; where none is tested, nothing is asked.
abbrev pub Alike : Side → Price → Price → Price → Type 0
Alike who tested old new = IfPriced (λ (p : Mills). violates who old p ≡ violates who new p) tested
