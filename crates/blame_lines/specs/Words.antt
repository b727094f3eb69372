-- The declared types and their cases, passed on under their own names.
pub use Rattle.std.specs.Prelude.{Some, None}
pub use Rattle.blame.specs.declared.FieldName.{FieldName}
pub use Rattle.blame.specs.declared.FieldName.TheVariants.{CaseLength, HeadLength, HeadKind, ZeroBytes, SideInError, OpeningFlag, ExpiryFlag, PanelFlag, BuyerKind, SellerKind, FilingDay, AgreementCode, BuyerCode, SellerCode, ExecutionPrice, BestBid, BestOffer, OfficialPrice, BuyerLimit, SellerLimit, AgreedPrice, Differential, ContractsTraded, BidSize, OfferSize, ExecutionTime, FilingTime, AgreementMade, AcceptanceMade}
pub use Rattle.blame.specs.declared.Measure.{Measure}
pub use Rattle.blame.specs.declared.Measure.TheVariants.{Plain, Counted, Money, Clocked, Lapsed, Lettered}
pub use Rattle.blame.specs.declared.Because.{Because}
pub use Rattle.blame.specs.declared.Because.TheVariants.{NoMatter, TheCase, TheBid, TheOffer, Executed, TheExecution, TheAgreement}
pub use Rattle.blame.specs.declared.Field.{Field}
pub use Rattle.blame.specs.Words.{Blame}
pub use Rattle.words.specs.declared.Value.{Value}
pub use Rattle.words.specs.declared.Value.TheVariants.{Number, Count, Dollars, Time, Lapse, Letter, Terms}
pub use Rattle.words.specs.declared.Piece.{Piece}
