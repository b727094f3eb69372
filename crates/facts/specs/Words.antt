-- The declared types that prices, moments and limits speak of, and their cases, passed on under their own names.
use Rattle.std.specs.Prelude.{Option}
pub use Rattle.std.specs.Prelude.{Some, None}
pub use Rattle.facts.specs.declared.Mills.{Mills}
pub use Rattle.facts.specs.declared.Contracts.{Contracts}
pub use Rattle.facts.specs.declared.Seconds.{Seconds}
pub use Rattle.facts.specs.declared.Side.{Side}
pub use Rattle.facts.specs.declared.Side.TheVariants.{Buy, Sell}

-- A price, or none.
abbrev pub Price : Type 0
Price = Option Mills

-- Seconds after notice, or none.
abbrev pub Moment : Type 0
Moment = Option Seconds
