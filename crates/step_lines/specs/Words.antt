-- The declared types and their cases, passed on under their own names.
pub use Rattle.std.specs.Prelude.{Some, None}
pub use Rattle.facts.specs.declared.Mills.{Mills}
pub use Rattle.facts.specs.declared.Contracts.{Contracts}
pub use Rattle.facts.specs.declared.Seconds.{Seconds}
pub use Rattle.facts.specs.Words.{Price}
pub use Rattle.facts.specs.Words.{Moment}
pub use Rattle.facts.specs.declared.Side.{Side}
pub use Rattle.facts.specs.declared.Side.TheVariants.{Buy, Sell}
pub use Rattle.facts.specs.declared.Kind.{Kind}
pub use Rattle.facts.specs.declared.Kind.TheVariants.{Customer, MarketMaker, Other}
pub use Rattle.facts.specs.declared.Day.{Day}
pub use Rattle.facts.specs.declared.Day.TheVariants.{TradeDate, NextDay, Later}
pub use Rattle.facts.specs.declared.Agreement.{Agreement}
pub use Rattle.facts.specs.declared.Agreement.TheVariants.{NotMade, OnPrice, ToNullify}
pub use Rattle.facts.specs.declared.Trade.{Trade}
pub use Rattle.facts.specs.declared.Settlement.{Settlement}
pub use Rattle.bands.specs.declared.Band.{Band}
pub use Rattle.way.specs.declared.Way.{Way}
pub use Rattle.way.specs.declared.Way.TheVariants.{Obvious, Opening, Catastrophic}
pub use Rattle.theory.specs.declared.Origin.{Origin}
pub use Rattle.theory.specs.declared.Origin.TheVariants.{Quoted, Official}
pub use Rattle.theory.specs.declared.Source.{Source}
pub use Rattle.steps.specs.declared.Clock.{Clock}
pub use Rattle.steps.specs.declared.Shut.{Shut}
pub use Rattle.steps.specs.declared.AllShut.{AllShut}
pub use Rattle.steps.specs.declared.Tried.{Tried}
pub use Rattle.steps.specs.declared.Tried.TheVariants.{First, Second, Third, NoWay}
pub use Rattle.steps.specs.declared.Gap.{Gap}
pub use Rattle.steps.specs.Words.{Spread}
pub use Rattle.steps.specs.declared.Looked.{Looked}
pub use Rattle.steps.specs.declared.Off.{Off}
pub use Rattle.steps.specs.declared.Limit.{Limit}
pub use Rattle.steps.specs.declared.Near.{Near}
pub use Rattle.steps.specs.declared.Even.{Even}
pub use Rattle.steps.specs.declared.Far.{Far}
pub use Rattle.steps.specs.declared.Acting.{Acting}
pub use Rattle.steps.specs.declared.Acting.TheVariants.{OnObvious, OnOpening, OnCatastrophic}
pub use Rattle.steps.specs.declared.End.{End}
pub use Rattle.steps.specs.declared.End.TheVariants.{PriceCounts, NullifyCounts, Acted}
pub use Rattle.steps.specs.declared.Settled.{Settled}
pub use Rattle.steps.specs.Words.{AfterError}
pub use Rattle.steps.specs.declared.Judged.{Judged}
pub use Rattle.steps.specs.declared.Reached.{Reached}
pub use Rattle.steps.specs.declared.Reached.TheVariants.{Late, Decided, Unpriced, Priced}
pub use Rattle.steps.specs.declared.Steps.{Steps}
pub use Rattle.figures.specs.declared.Figures.{Figures}
pub use Rattle.words.specs.declared.Place.{Place}
pub use Rattle.words.specs.declared.Value.{Value}
pub use Rattle.words.specs.declared.Value.TheVariants.{Nothing, Number, Count, Dollars, Time, Lapse, Letter, Who, On, Flag, Terms}
pub use Rattle.words.specs.declared.Piece.{Piece}
pub use Rattle.step_lines.specs.declared.Cover.{Cover}
pub use Rattle.step_lines.specs.declared.Cover.TheVariants.{Every, UpTo, ByOfficial}
