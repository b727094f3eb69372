-- How many contracts a ruling covers (RULE R9; document 000, struck (a)(3)(C) and (D)).
use Rattle.std.specs.Prelude.{◌-◌, ltb}
use Rattle.wire.specs.Tests.{pick}
use Rattle.facts.specs.Numbers.{contracts}
use Rattle.ruling.specs.Words.{Contracts, Way, Obvious, Opening, Catastrophic, Origin, Quoted, Official, Counts}

-- at most the size of the quote that gave TP, which may be 0; where an official gave it there is no such limit
abbrev pub covered_by : Origin → Contracts → Contracts
covered_by (Quoted size) n = pick (ltb size.0 n.0) size n
covered_by Official n = n

-- An adjustment on the opening way covers that many; every other covers every contract.
abbrev pub covered : Way → Origin → Contracts → Contracts
covered Obvious origin n = n
covered Opening origin n = covered_by origin n
covered Catastrophic origin n = n

-- the rest stand
abbrev pub rest_of : Contracts → Contracts → Contracts
rest_of n taken = contracts (n.0 - taken.0)

-- ---- adjusted, nullified, standing
abbrev pub counts : Contracts → Contracts → Contracts → Counts
counts a n s = record { adjusted = a; nullified = n; standing = s }

abbrev pub all_stand : Contracts → Counts
all_stand n = counts (contracts 0) (contracts 0) n

abbrev pub all_nullified : Contracts → Counts
all_nullified n = counts (contracts 0) n (contracts 0)

abbrev pub some_adjusted : Contracts → Contracts → Counts
some_adjusted n taken = counts taken (contracts 0) (rest_of n taken)
