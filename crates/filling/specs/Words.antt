-- The declared types that filling speaks of, passed on under their own names.
pub use Rattle.std.specs.Prelude.{Some, None}
pub use Rattle.facts.specs.Words.{Price}
pub use Rattle.facts.specs.declared.Quote.{Quote}
pub use Rattle.facts.specs.declared.Trade.{Trade}
pub use Rattle.facts.specs.declared.Facts.{Facts}
pub use Rattle.best.specs.declared.Found.{Found}
pub use Rattle.best.specs.declared.Looked.{Looked}
pub use Rattle.filling.specs.declared.Tried.{Tried}
