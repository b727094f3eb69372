-- The declared types and their cases, and so many mills, passed on under their own names.
pub use Rattle.facts.specs.declared.Mills.{Mills}
pub use Rattle.facts.specs.declared.Side.{Side}
pub use Rattle.facts.specs.declared.Side.TheVariants.{Buy, Sell}
pub use Rattle.facts.specs.Numbers.{mills}
pub use Rattle.bands.specs.declared.Band.{Band}
