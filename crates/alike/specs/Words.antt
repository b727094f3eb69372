-- The declared types that speak of a ruling and of what it does not depend on, passed on under their own names.
pub use Rattle.std.specs.Prelude.{Some, None}
pub use Rattle.facts.specs.declared.Mills.{Mills}
pub use Rattle.facts.specs.Words.{Price}
pub use Rattle.facts.specs.Words.{Moment}
pub use Rattle.facts.specs.declared.Side.{Side}
pub use Rattle.facts.specs.declared.Side.TheVariants.{Buy, Sell}
pub use Rattle.facts.specs.declared.Trade.{Trade}
pub use Rattle.facts.specs.declared.Facts.{Facts}
pub use Rattle.cases.specs.declared.Reading.{Reading}
pub use Rattle.way.specs.declared.Way.{Way}
pub use Rattle.way.specs.declared.Way.TheVariants.{Obvious, Opening, Catastrophic}
pub use Rattle.way.specs.Words.{Open}
pub use Rattle.theory.specs.declared.Source.{Source}
pub use Rattle.theory.specs.Words.{Theory}
pub use Rattle.agreement.specs.declared.Heeded.{Heeded}
pub use Rattle.agreement.specs.declared.Heeded.TheVariants.{Ignored, Repriced, Undone}
pub use Rattle.ruling.specs.declared.Outcome.{Outcome}
pub use Rattle.ruling.specs.declared.Outcome.TheVariants.{NoRelief, Adjusted, Nullified, Waiting}
pub use Rattle.ruling.specs.declared.Ruling.{Ruling}
