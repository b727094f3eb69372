-- The declared types that the parties speak of, passed on under their own names.
pub use Rattle.facts.specs.declared.Side.{Side}
pub use Rattle.facts.specs.declared.Side.TheVariants.{Buy, Sell}
pub use Rattle.facts.specs.declared.Kind.{Kind}
pub use Rattle.facts.specs.declared.Kind.TheVariants.{Customer, MarketMaker, Other}
