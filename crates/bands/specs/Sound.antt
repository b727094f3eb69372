-- What the laws (RULE R12.1, R12.2) ask of a table, whatever its rows: at every TP the catastrophic minimum is at least the obvious one and at
-- least its own adjustment, and the obvious minimum at least the obvious adjustment.
use Rattle.std.specs.Prelude.{◌≤◌}
use Rattle.bands.specs.Words.{Mills, Band}
use Rattle.bands.specs.Amounts.{obvious_adjustment_of}

pub record Sound (bands : Mills → Band) : Type 0 where
  pub obvious_least : (tp : Mills) → (bands tp).obvious.0 ≤ (bands tp).catastrophic.0
  pub adjustment_within : (tp : Mills) → (bands tp).adjustment.0 ≤ (bands tp).catastrophic.0
  pub obvious_adjustment_within : (tp : Mills) → (obvious_adjustment_of tp).0 ≤ (bands tp).obvious.0
