-- The page's numbers and values for an act (RULE R10.1).
use Rattle.std.specs.Prelude.{ℕ, Bool, false, eqb}
use Rattle.wire.specs.Tests.{pick, in_range}
use Rattle.facts.specs.Numbers.{price_number}
use Rattle.act.specs.Words.{Mills, Price, Some, None, Side, Band, Act, Adjust, Nullify, Leave}
use Rattle.act.specs.Act.{obvious_price, catastrophic_price}

-- the outcome: 0 no relief, 1 adjusted, 2 nullified
abbrev pub act_outcome : Act → ℕ
act_outcome (Adjust c) = 1
act_outcome (Nullify reason) = 2
act_outcome (Leave reason) = 0

abbrev pub act_reason : Act → ℕ
act_reason (Adjust c) = c.reason
act_reason (Nullify reason) = reason
act_reason (Leave reason) = reason

-- the new price: none unless adjusted
abbrev pub act_price : Act → Price
act_price (Adjust c) = Some c.price
act_price (Nullify reason) = None
act_price (Leave reason) = None

-- An outcome fits its reasons alone: of those that an act gives, 4 and 5 are no relief, 6 to 9 adjusted, 11 and 12 nullified.
abbrev pub fits : ℕ → ℕ → Bool
fits outcome reason =
    pick (eqb outcome 0) (in_range 4 5 reason) (pick (eqb outcome 1) (in_range 6 9 reason) (pick (eqb outcome 2) (in_range 11 12 reason) false))

-- The new price in the page's number, by the reason: for 6 TP plus (buy) or minus (sell) the obvious adjustment, for 7 TP itself, for 8
-- and 9 TP plus or minus the row's adjustment; every other reason has none, 4,294,967,295.
abbrev pub price_for : ℕ → Side → Mills → Band → ℕ
price_for reason side tp band =
    pick (eqb reason 6) (obvious_price side tp).0
    (pick (eqb reason 7) tp.0
    (pick (in_range 8 9 reason) (catastrophic_price side tp band).0 (price_number None)))

-- what is said of a price, where there is one
abbrev pub IfPriced : (Mills → Type 0) → Price → Type 0
IfPriced P (Some p) = P p
IfPriced P None = Unit {0}
