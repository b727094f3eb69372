-- The declared types that the record speaks of, passed on under their own names (a crate's facade does not pass them on).
pub use Rattle.std.specs.Prelude.{Some, None}
pub use Rattle.facts.specs.declared.Contracts.{Contracts}
pub use Rattle.facts.specs.declared.Seconds.{Seconds}
pub use Rattle.facts.specs.Words.{Price}
pub use Rattle.facts.specs.Words.{Moment}
pub use Rattle.facts.specs.declared.Form.{Form}
pub use Rattle.facts.specs.declared.Party.{Party}
pub use Rattle.facts.specs.declared.Trade.{Trade}
pub use Rattle.facts.specs.declared.Quote.{Quote}
pub use Rattle.facts.specs.declared.Market.{Market}
pub use Rattle.facts.specs.declared.Request.{Request}
pub use Rattle.facts.specs.declared.Settlement.{Settlement}
pub use Rattle.facts.specs.declared.Facts.{Facts}
