-- The declared types that a sheet speaks of, passed on under their own names.
pub use Rattle.cases.specs.declared.Reading.{Reading}
pub use Rattle.sheet.specs.declared.SheetAnswer.{SheetAnswer}
