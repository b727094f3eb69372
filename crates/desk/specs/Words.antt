-- The declared types that the front speaks of, passed on under their own names.
pub use Rattle.sheet.specs.declared.SheetAnswer.{SheetAnswer}
pub use Rattle.desk.specs.declared.DeskSheet.{DeskSheet}
pub use Rattle.best.specs.declared.Looked.{Looked}
pub use Rattle.desk.specs.declared.DeskBest.{DeskBest}
