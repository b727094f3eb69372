-- The declared types that the text speaks of, passed on under their own names.
pub use Rattle.std.specs.Prelude.{Some, None}
pub use Rattle.facts.specs.Words.{Price}
pub use Rattle.facts.specs.declared.Quote.{Quote}
pub use Rattle.quotes.specs.declared.Posted.{Posted}
pub use Rattle.halves.specs.declared.Half.{Half}
pub use Rattle.halves.specs.declared.Half.TheVariants.{Bid, Offer}
pub use Rattle.best.specs.Words.{Last}
pub use Rattle.best.specs.declared.Found.{Found}
pub use Rattle.best.specs.declared.Looked.{Looked}
pub use Rattle.spelling.specs.Words.{Typed}
