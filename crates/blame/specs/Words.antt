-- The declared types that a field speaks of, and their cases, passed on under their own names.
use Rattle.std.specs.Prelude.{Option}
pub use Rattle.std.specs.Prelude.{Some, None}
pub use Rattle.facts.specs.Words.{Price}
pub use Rattle.facts.specs.declared.Day.{Day}
pub use Rattle.facts.specs.declared.Day.TheVariants.{TradeDate, NextDay, Later}
pub use Rattle.facts.specs.declared.Agreement.{Agreement}
pub use Rattle.facts.specs.declared.Agreement.TheVariants.{NotMade, OnPrice, ToNullify}
pub use Rattle.facts.specs.declared.Form.{Form}
pub use Rattle.facts.specs.declared.Form.TheVariants.{One, Two}
pub use Rattle.blame.specs.declared.FieldName.{FieldName}
pub use Rattle.blame.specs.declared.FieldName.TheVariants.{CaseLength, HeadLength, HeadKind, ZeroBytes, SideInError, OpeningFlag, ExpiryFlag, PanelFlag, BuyerKind, SellerKind, FilingDay, AgreementCode, BuyerCode, SellerCode, ExecutionPrice, BestBid, BestOffer, OfficialPrice, BuyerLimit, SellerLimit, AgreedPrice, Differential, ContractsTraded, BidSize, OfferSize, ExecutionTime, FilingTime, AgreementMade, AcceptanceMade}
pub use Rattle.blame.specs.declared.Measure.{Measure}
pub use Rattle.blame.specs.declared.Measure.TheVariants.{Plain, Counted, Money, Clocked, Lapsed, Lettered}
pub use Rattle.blame.specs.declared.Because.{Because}
pub use Rattle.blame.specs.declared.Because.TheVariants.{NoMatter, TheCase, TheBid, TheOffer, Executed, TheExecution, TheAgreement}
pub use Rattle.blame.specs.declared.Bounds.{Bounds}
pub use Rattle.blame.specs.declared.Field.{Field}

-- The field that is bad, or none.
abbrev pub Blame : Type 0
Blame = Option Field
