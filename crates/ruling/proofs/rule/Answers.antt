use Prim.Native.Nat.{ℕ}
use mathlib.Core.Path.{◌≡◌, ap, ◌∙◌}
use mathlib.Core.List.{List}
use Rattle.record.specs.Record.{trade_of, request_of, party_at, facts_of}
use Rattle.parties.specs.Parties.{by_side}
use Rattle.way.specs.Way.{way_of}
use Rattle.ruling.specs.Words.{Kind, Trade, Request, Open, None, Ruling}
use Rattle.ruling.specs.Ruling.{no_relief, ruled_if, ruling_of}
use Rattle.ruling.proofs.Numbers.{ruled}
use Rattle.ruling.proofs.rule.Goals as goal

-- What is read for the way is the record's own, so the way is that of the record's facts.
by_way : (s : List ℕ) {trade : Trade} {request : Request} {buyer seller kind : Kind} {found w : Open} {r : Ruling}
    → trade ≡ trade_of s
    → request ≡ request_of s
    → buyer ≡ (party_at s 48 64).kind
    → seller ≡ (party_at s 56 65).kind
    → kind ≡ by_side request.side buyer seller
    → found ≡ way_of trade.executed request kind
    → found ≡ w
    → r ≡ ruled_if (facts_of s) w
    → r ≡ ruling_of (facts_of s)
unfolding facts_of ruling_of
by_way s {w = w} trade request buyer seller kind found case ruling =
    let e : w ≡ way_of (trade_of s).executed (request_of s) (by_side (request_of s).side (party_at s 48 64).kind (party_at s 56 65).kind) = cc in
    ruling ∙ ap (ruled_if (facts_of s)) e

pub returns-in-Some : goal.returns-in-Some
returns-in-Some c = ruled _ _
    (by_way _
    c.trade_of-trade.ensures c.request_of-request.ensures c.buyer_kind-buyer.ensures c.seller_kind-seller.ensures
    c.by_side-kind.ensures c.find_way.ensures c.in-Some.is c.rule_by.ensures)

pub returns-in-None : goal.returns-in-None
unfolding facts_of
returns-in-None c = ruled _ _
    (by_way _
    c.trade_of-trade.ensures c.request_of-request.ensures c.buyer_kind-buyer.ensures c.seller_kind-seller.ensures
    c.by_side-kind.ensures c.find_way.ensures c.in-None.is
    (c.no_relief.ensures ∙ ap (λ (t : Trade). no_relief t 2 None) c.trade_of-trade.ensures))
