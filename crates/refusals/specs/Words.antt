-- The declared types that the tests speak of, passed on under their own names.
pub use Rattle.std.specs.Prelude.{Some, None}
pub use Rattle.facts.specs.declared.Mills.{Mills}
pub use Rattle.facts.specs.declared.Contracts.{Contracts}
pub use Rattle.facts.specs.declared.Seconds.{Seconds}
pub use Rattle.facts.specs.Words.{Price}
pub use Rattle.facts.specs.Words.{Moment}
pub use Rattle.facts.specs.declared.Side.TheVariants.{Buy, Sell}
pub use Rattle.facts.specs.declared.Day.{Day}
pub use Rattle.facts.specs.declared.Day.TheVariants.{TradeDate, NextDay, Later}
pub use Rattle.facts.specs.declared.Agreement.{Agreement}
pub use Rattle.facts.specs.declared.Agreement.TheVariants.{NotMade, OnPrice, ToNullify}
pub use Rattle.facts.specs.declared.Party.{Party}
pub use Rattle.facts.specs.declared.Trade.{Trade}
pub use Rattle.facts.specs.declared.Market.{Market}
pub use Rattle.facts.specs.declared.Request.{Request}
pub use Rattle.facts.specs.declared.Settlement.{Settlement}
pub use Rattle.facts.specs.declared.Facts.{Facts}
