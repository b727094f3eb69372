-- The declared types and their cases, passed on under their own names: the facts' that stand here, then our own.
use Rattle.std.specs.Prelude.{Option}
pub use Rattle.std.specs.Prelude.{Some, None}
pub use Rattle.facts.specs.declared.Seconds.{Seconds}
pub use Rattle.facts.specs.declared.Side.{Side}
pub use Rattle.facts.specs.declared.Side.TheVariants.{Buy, Sell}
pub use Rattle.facts.specs.declared.Kind.{Kind}
pub use Rattle.facts.specs.declared.Kind.TheVariants.{Customer, MarketMaker, Other}
pub use Rattle.facts.specs.declared.Day.{Day}
pub use Rattle.facts.specs.declared.Day.TheVariants.{TradeDate, NextDay, Later}
pub use Rattle.facts.specs.declared.Request.{Request}
pub use Rattle.way.specs.declared.Way.{Way}
pub use Rattle.way.specs.declared.Way.TheVariants.{Obvious, Opening, Catastrophic}

-- The way that is open, or none.
abbrev pub Open : Type 0
Open = Option Way
