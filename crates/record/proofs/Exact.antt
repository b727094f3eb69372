-- Each callable function's promise, as Rattle reads it from the contract, allows one result.
use mathlib.Core.Path.{sym, ◌∙◌}
use contract.Lifetimes.{Lfts}
use Rattle.wire.specs.Exact.{Exact}
use Rattle.record.proofs.trade_of.Reads as trade_of
use Rattle.record.proofs.market_of.Reads as market_of
use Rattle.record.proofs.request_of.Reads as request_of
use Rattle.record.proofs.buyer_kind.Reads as buyer_kind
use Rattle.record.proofs.seller_kind.Reads as seller_kind
use Rattle.record.proofs.buyer_of.Reads as buyer_of
use Rattle.record.proofs.seller_of.Reads as seller_of
use Rattle.record.proofs.settlement_of.Reads as settlement_of
use Rattle.record.proofs.facts_of.Reads as facts_of

pub trade_of_exact : (κs : Lfts 1) → Exact (trade_of.Post κs)
trade_of_exact κs a e e' r r' p q = p ∙ sym q

pub market_of_exact : (κs : Lfts 1) → Exact (market_of.Post κs)
market_of_exact κs a e e' r r' p q = p ∙ sym q

pub request_of_exact : (κs : Lfts 1) → Exact (request_of.Post κs)
request_of_exact κs a e e' r r' p q = p ∙ sym q

pub buyer_kind_exact : (κs : Lfts 1) → Exact (buyer_kind.Post κs)
buyer_kind_exact κs a e e' r r' p q = p ∙ sym q

pub seller_kind_exact : (κs : Lfts 1) → Exact (seller_kind.Post κs)
seller_kind_exact κs a e e' r r' p q = p ∙ sym q

pub buyer_of_exact : (κs : Lfts 1) → Exact (buyer_of.Post κs)
buyer_of_exact κs a e e' r r' p q = p ∙ sym q

pub seller_of_exact : (κs : Lfts 1) → Exact (seller_of.Post κs)
seller_of_exact κs a e e' r r' p q = p ∙ sym q

pub settlement_of_exact : (κs : Lfts 1) → Exact (settlement_of.Post κs)
settlement_of_exact κs a e e' r r' p q = p ∙ sym q

pub facts_of_exact : (κs : Lfts 1) → Exact (facts_of.Post κs)
facts_of_exact κs a e e' r r' p q = p ∙ sym q
