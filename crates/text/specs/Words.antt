-- The declared types that the text speaks of, passed on under their own names.
pub use Rattle.std.specs.Prelude.{Some, None}
pub use Rattle.facts.specs.Words.{Price}
