-- The declared types that a ruling before and after request L4 speaks of, passed on under their own names.
pub use Rattle.std.specs.Prelude.{Some, None}
pub use Rattle.facts.specs.declared.Contracts.{Contracts}
pub use Rattle.facts.specs.Words.{Price}
pub use Rattle.facts.specs.declared.Side.{Side}
pub use Rattle.facts.specs.declared.Side.TheVariants.{Buy, Sell}
pub use Rattle.facts.specs.declared.Form.{Form}
pub use Rattle.facts.specs.declared.Form.TheVariants.{One, Two}
pub use Rattle.facts.specs.declared.Quote.{Quote}
pub use Rattle.facts.specs.declared.Market.{Market}
pub use Rattle.facts.specs.declared.Facts.{Facts}
pub use Rattle.way.specs.declared.Way.{Way}
pub use Rattle.way.specs.declared.Way.TheVariants.{Obvious, Opening, Catastrophic}
pub use Rattle.way.specs.Words.{Open}
pub use Rattle.theory.specs.Words.{Theory}
pub use Rattle.theory.specs.declared.Source.{Source}
pub use Rattle.theory.specs.declared.Origin.TheVariants.{Quoted, Official}
pub use Rattle.agreement.specs.declared.Heeded.{Heeded}
pub use Rattle.agreement.specs.declared.Heeded.TheVariants.{Ignored, Repriced, Undone}
pub use Rattle.ruling.specs.declared.Ruling.{Ruling}
pub use Rattle.sheet.specs.declared.SheetAnswer.{SheetAnswer}
