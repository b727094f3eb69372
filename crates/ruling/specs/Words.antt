-- The declared types and their cases, passed on under their own names: those of the floors below that stand here, then our own.
pub use Rattle.std.specs.Prelude.{Some, None}
pub use Rattle.facts.specs.declared.Mills.{Mills}
pub use Rattle.facts.specs.declared.Contracts.{Contracts}
pub use Rattle.facts.specs.Words.{Price}
pub use Rattle.facts.specs.Words.{Moment}
pub use Rattle.facts.specs.declared.Side.{Side}
pub use Rattle.facts.specs.declared.Side.TheVariants.{Buy, Sell}
pub use Rattle.facts.specs.declared.Kind.{Kind}
pub use Rattle.facts.specs.declared.Kind.TheVariants.{Customer, MarketMaker, Other}
pub use Rattle.facts.specs.declared.Day.{Day}
pub use Rattle.facts.specs.declared.Day.TheVariants.{TradeDate, NextDay, Later}
pub use Rattle.facts.specs.declared.Agreement.{Agreement}
pub use Rattle.facts.specs.declared.Agreement.TheVariants.{NotMade, OnPrice, ToNullify}
pub use Rattle.facts.specs.declared.Party.{Party}
pub use Rattle.facts.specs.declared.Trade.{Trade}
pub use Rattle.facts.specs.declared.Quote.{Quote}
pub use Rattle.facts.specs.declared.Market.{Market}
pub use Rattle.facts.specs.declared.Request.{Request}
pub use Rattle.facts.specs.declared.Settlement.{Settlement}
pub use Rattle.facts.specs.declared.Facts.{Facts}
pub use Rattle.bands.specs.declared.Band.{Band}
pub use Rattle.way.specs.declared.Way.{Way}
pub use Rattle.way.specs.declared.Way.TheVariants.{Obvious, Opening, Catastrophic}
pub use Rattle.way.specs.Words.{Open}
pub use Rattle.theory.specs.declared.Origin.{Origin}
pub use Rattle.theory.specs.declared.Origin.TheVariants.{Quoted, Official}
pub use Rattle.theory.specs.declared.Source.{Source}
pub use Rattle.theory.specs.Words.{Theory}
pub use Rattle.agreement.specs.declared.Heeded.{Heeded}
pub use Rattle.agreement.specs.declared.Heeded.TheVariants.{Ignored, Repriced, Undone}
pub use Rattle.act.specs.declared.Act.{Act}
pub use Rattle.act.specs.declared.Act.TheVariants.{Adjust, Nullify, Leave}
pub use Rattle.ruling.specs.declared.Counts.{Counts}
pub use Rattle.ruling.specs.declared.Repricing.{Repricing}
pub use Rattle.ruling.specs.declared.Outcome.{Outcome}
pub use Rattle.ruling.specs.declared.Outcome.TheVariants.{NoRelief, Adjusted, Nullified, Waiting}
pub use Rattle.ruling.specs.declared.Ruling.{Ruling}
