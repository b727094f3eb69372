-- The declared types and their cases, passed on under their own names: the facts' that stand here, then our own.
pub use Rattle.std.specs.Prelude.{Some, None}
pub use Rattle.facts.specs.declared.Mills.{Mills}
pub use Rattle.facts.specs.declared.Seconds.{Seconds}
pub use Rattle.facts.specs.Words.{Price}
pub use Rattle.facts.specs.Words.{Moment}
pub use Rattle.facts.specs.declared.Kind.{Kind}
pub use Rattle.facts.specs.declared.Kind.TheVariants.{Customer, MarketMaker, Other}
pub use Rattle.facts.specs.declared.Day.{Day}
pub use Rattle.facts.specs.declared.Day.TheVariants.{TradeDate, NextDay, Later}
pub use Rattle.facts.specs.declared.Agreement.{Agreement}
pub use Rattle.facts.specs.declared.Agreement.TheVariants.{NotMade, OnPrice, ToNullify}
pub use Rattle.words.specs.declared.Place.{Place}
pub use Rattle.words.specs.declared.Value.{Value}
pub use Rattle.words.specs.declared.Value.TheVariants.{Nothing, Number, Count, Dollars, Time, Lapse, Letter, Who, On, Flag, Terms}
pub use Rattle.words.specs.declared.Piece.{Piece}
