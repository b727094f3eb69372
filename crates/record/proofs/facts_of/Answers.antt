use Rattle.record.proofs.Read.{facts_read}
use Rattle.record.proofs.facts_of.Goals as goal

pub returns : goal.returns
returns c = facts_read _
    c.form_of.ensures
    c.trade_of.ensures
    c.market_of.ensures
    c.request_of.ensures
    c.buyer_of.ensures
    c.seller_of.ensures
    c.settlement_of.ensures
