-- The declared types and their cases, passed on under their own names.
use Rattle.std.specs.Prelude.{Option}
pub use Rattle.std.specs.Prelude.{Some, None}
pub use Rattle.facts.specs.declared.Mills.{Mills}
pub use Rattle.facts.specs.declared.Contracts.{Contracts}
pub use Rattle.facts.specs.Words.{Price}
pub use Rattle.facts.specs.Words.{Moment}
pub use Rattle.facts.specs.declared.Side.{Side}
pub use Rattle.facts.specs.declared.Side.TheVariants.{Buy, Sell}
pub use Rattle.facts.specs.declared.Kind.{Kind}
pub use Rattle.facts.specs.declared.Kind.TheVariants.{Customer, MarketMaker, Other}
pub use Rattle.facts.specs.declared.Day.{Day}
pub use Rattle.facts.specs.declared.Day.TheVariants.{TradeDate, NextDay, Later}
pub use Rattle.facts.specs.declared.Agreement.{Agreement}
pub use Rattle.facts.specs.declared.Agreement.TheVariants.{NotMade, OnPrice, ToNullify}
pub use Rattle.facts.specs.declared.Party.{Party}
pub use Rattle.facts.specs.declared.Trade.{Trade}
pub use Rattle.facts.specs.declared.Quote.{Quote}
pub use Rattle.facts.specs.declared.Market.{Market}
pub use Rattle.facts.specs.declared.Request.{Request}
pub use Rattle.facts.specs.declared.Settlement.{Settlement}
pub use Rattle.facts.specs.declared.Facts.{Facts}
pub use Rattle.facts.specs.declared.Form.{Form}
pub use Rattle.facts.specs.declared.Form.TheVariants.{One, Two}
pub use Rattle.bands.specs.declared.Band.{Band}
pub use Rattle.way.specs.declared.Way.{Way}
pub use Rattle.way.specs.declared.Way.TheVariants.{Obvious, Opening, Catastrophic}
pub use Rattle.way.specs.Words.{Open}
pub use Rattle.theory.specs.declared.Origin.{Origin}
pub use Rattle.theory.specs.declared.Origin.TheVariants.{Quoted, Official}
pub use Rattle.theory.specs.declared.Source.{Source}
pub use Rattle.theory.specs.Words.{Theory}
pub use Rattle.agreement.specs.declared.Heeded.{Heeded}
pub use Rattle.agreement.specs.declared.Heeded.TheVariants.{Ignored, Repriced, Undone}
pub use Rattle.act.specs.declared.Act.{Act}
pub use Rattle.act.specs.declared.Act.TheVariants.{Adjust, Nullify, Leave}
pub use Rattle.facts.specs.declared.Seconds.{Seconds}
pub use Rattle.ruling.specs.declared.Ruling.{Ruling}
pub use Rattle.steps.specs.declared.Clock.{Clock}
pub use Rattle.steps.specs.declared.Shut.{Shut}
pub use Rattle.steps.specs.declared.AllShut.{AllShut}
pub use Rattle.steps.specs.declared.Tried.{Tried}
pub use Rattle.steps.specs.declared.Gap.{Gap}
pub use Rattle.steps.specs.declared.Looked.{Looked}
pub use Rattle.steps.specs.declared.Off.{Off}
pub use Rattle.steps.specs.declared.Limit.{Limit}
pub use Rattle.steps.specs.declared.Near.{Near}
pub use Rattle.steps.specs.declared.Even.{Even}
pub use Rattle.steps.specs.declared.Far.{Far}
pub use Rattle.steps.specs.declared.Acting.{Acting}
pub use Rattle.steps.specs.declared.End.{End}
pub use Rattle.steps.specs.declared.Settled.{Settled}
pub use Rattle.steps.specs.declared.Judged.{Judged}
pub use Rattle.steps.specs.declared.Reached.{Reached}
pub use Rattle.steps.specs.declared.Steps.{Steps}
pub use Rattle.steps.specs.declared.Tried.TheVariants.{First, Second, Third, NoWay}
pub use Rattle.steps.specs.declared.Acting.TheVariants.{OnObvious, OnOpening, OnCatastrophic}
pub use Rattle.steps.specs.declared.End.TheVariants.{PriceCounts, NullifyCounts, Acted}
pub use Rattle.steps.specs.declared.Reached.TheVariants.{Late, Decided, Unpriced, Priced}

-- How far the quotes were asked to be apart, or that nobody asked.
abbrev pub Spread : Type 0
Spread = Option Gap

-- What was settled on an error, or that there was none.
abbrev pub AfterError : Type 0
AfterError = Option Settled
