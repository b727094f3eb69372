-- The parties by their kinds, and which of two is the one in error (RULE R1.1: the request is taken from the
-- party in error; R2.6.44 gives its side).
use Rattle.std.specs.Prelude.{Bool, true, false, ◌||◌}
use Rattle.parties.specs.Words.{Side, Buy, Sell, Kind, Customer, MarketMaker, Other}

abbrev pub is_customer : Kind → Bool
is_customer Customer = true
is_customer MarketMaker = false
is_customer Other = false

abbrev pub is_maker : Kind → Bool
is_maker Customer = false
is_maker MarketMaker = true
is_maker Other = false

-- The buyer's where the side is buy, the seller's where it is sell: with the buyer's first, of the party in error;
-- with the seller's first, of the other.
abbrev pub by_side : {A : Type 0} → Side → A → A → A
by_side Buy b s = b
by_side Sell b s = s

-- Some party is a Customer.
abbrev pub any_customer : Kind → Kind → Bool
any_customer buyer seller = is_customer buyer || is_customer seller
