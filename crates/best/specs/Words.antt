-- The declared types that a lookup speaks of, passed on under their own names.
use Rattle.std.specs.Prelude.{Option}
pub use Rattle.std.specs.Prelude.{Some, None}
pub use Rattle.facts.specs.declared.Mills.{Mills}
pub use Rattle.facts.specs.declared.Contracts.{Contracts}
pub use Rattle.facts.specs.Words.{Price}
pub use Rattle.facts.specs.declared.Quote.{Quote}
pub use Rattle.quotes.specs.declared.Posted.{Posted}
pub use Rattle.halves.specs.declared.Half.{Half}
pub use Rattle.halves.specs.declared.Half.TheVariants.{Bid, Offer}
pub use Rattle.best.specs.declared.Found.{Found}
pub use Rattle.best.specs.declared.Looked.{Looked}
pub use Rattle.best.specs.declared.Walk.{Walk}

-- What an exchange last sent, or nothing.
abbrev pub Last : Type 0
Last = Option Posted
