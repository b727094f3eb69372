-- The declared types and their cases, passed on under their own names: the facts' that stand here, then our own.
use Rattle.std.specs.Prelude.{Option}
pub use Rattle.std.specs.Prelude.{Some, None}
pub use Rattle.facts.specs.declared.Contracts.{Contracts}
pub use Rattle.facts.specs.Words.{Price}
pub use Rattle.facts.specs.declared.Side.{Side}
pub use Rattle.facts.specs.declared.Side.TheVariants.{Buy, Sell}
pub use Rattle.facts.specs.declared.Form.{Form}
pub use Rattle.facts.specs.declared.Quote.{Quote}
pub use Rattle.facts.specs.declared.Market.{Market}
pub use Rattle.theory.specs.declared.Origin.{Origin}
pub use Rattle.theory.specs.declared.Origin.TheVariants.{Quoted, Official}
pub use Rattle.theory.specs.declared.Source.{Source}

-- A theoretical price with its origin, or none.
abbrev pub Theory : Type 0
Theory = Option Source
