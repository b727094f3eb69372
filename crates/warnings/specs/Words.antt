-- The declared types and their cases, passed on under their own names.
pub use Rattle.careful.specs.declared.Cautions.{Cautions}
pub use Rattle.words.specs.declared.Value.TheVariants.{Number}
pub use Rattle.words.specs.declared.Piece.{Piece}
