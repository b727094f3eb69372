-- The declared types that the records speak of, passed on under their own names.
pub use Rattle.facts.specs.declared.Side.{Side}
pub use Rattle.facts.specs.declared.Side.TheVariants.{Buy, Sell}
pub use Rattle.ruling.specs.declared.Ruling.{Ruling}
pub use Rattle.figures.specs.declared.Figures.{Figures}
