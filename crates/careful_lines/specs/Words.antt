-- The declared types and their cases, passed on under their own names.
pub use Rattle.std.specs.Prelude.{Some, None}
pub use Rattle.careful.specs.declared.Warning.{Warning}
pub use Rattle.careful.specs.Words.{Caution}
pub use Rattle.careful.specs.declared.Cautions.{Cautions}
pub use Rattle.words.specs.declared.Value.TheVariants.{Dollars}
pub use Rattle.words.specs.declared.Piece.{Piece}
