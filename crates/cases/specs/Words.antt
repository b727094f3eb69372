-- The declared types that reading and writing speak of, passed on under their own names.
pub use Rattle.facts.specs.declared.Facts.{Facts}
pub use Rattle.cases.specs.declared.Reading.{Reading}
