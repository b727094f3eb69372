-- The declared types and their cases, passed on under their own names: those of the floors below that stand here, then our own.
pub use Rattle.std.specs.Prelude.{Some, None}
pub use Rattle.facts.specs.declared.Mills.{Mills}
pub use Rattle.facts.specs.Words.{Price}
pub use Rattle.facts.specs.declared.Side.{Side}
pub use Rattle.facts.specs.declared.Side.TheVariants.{Buy, Sell}
pub use Rattle.facts.specs.declared.Kind.{Kind}
pub use Rattle.facts.specs.declared.Kind.TheVariants.{Customer, MarketMaker, Other}
pub use Rattle.facts.specs.declared.Party.{Party}
pub use Rattle.bands.specs.declared.Band.{Band}
pub use Rattle.way.specs.declared.Way.{Way}
pub use Rattle.way.specs.declared.Way.TheVariants.{Obvious, Opening, Catastrophic}
pub use Rattle.act.specs.declared.Change.{Change}
pub use Rattle.act.specs.declared.Act.{Act}
pub use Rattle.act.specs.declared.Act.TheVariants.{Adjust, Nullify, Leave}
