-- The page's numbers and values for a ruling (RULE R10.1).
use Rattle.std.specs.Prelude.{ℕ}
use Rattle.ruling.specs.Words.{Price, Some, None, Counts, Outcome, NoRelief, Adjusted, Nullified, Waiting}

-- the outcome: 0 no relief, 1 adjusted, 2 nullified, 3 waiting
abbrev pub outcome_number : Outcome → ℕ
outcome_number (NoRelief c) = 0
outcome_number (Adjusted a) = 1
outcome_number (Nullified c) = 2
outcome_number (Waiting c) = 3

-- the new price, none unless adjusted
abbrev pub new_price : Outcome → Price
new_price (NoRelief c) = None
new_price (Adjusted a) = Some a.price
new_price (Nullified c) = None
new_price (Waiting c) = None

-- the contracts adjusted, nullified and standing
abbrev pub counts_of : Outcome → Counts
counts_of (NoRelief c) = c
counts_of (Adjusted a) = a.counts
counts_of (Nullified c) = c
counts_of (Waiting c) = c
