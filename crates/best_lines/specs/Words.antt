-- The declared types that the lines speak of, passed on under their own names.
pub use Rattle.std.specs.Prelude.{Some, None}
pub use Rattle.facts.specs.Words.{Price}
pub use Rattle.facts.specs.declared.Quote.{Quote}
pub use Rattle.quotes.specs.declared.Posted.{Posted}
pub use Rattle.halves.specs.declared.Half.{Half}
pub use Rattle.halves.specs.declared.Half.TheVariants.{Bid, Offer}
pub use Rattle.best.specs.Words.{Last}
