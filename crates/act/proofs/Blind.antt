-- Demand 3 at the act: of one party's code and limit an act reads only whether the price that is tested violates the limit.
use Prim.Native.Nat.{ℕ}
use mathlib.Core.Path.{◌≡◌, refl, sym, ap}
use mathlib.Core.Bool.{Bool, ◌||◌}
use mathlib.Core.List.{List}
use Rattle.wire.specs.Tests.{pick}
use Rattle.facts.specs.Limits.{violates}
use Rattle.parties.specs.Parties.{is_customer, is_maker, by_side}
use Rattle.act.specs.Words.{Mills, Price, Some, None, Side, Buy, Sell, Kind, Customer, MarketMaker, Other, Party, Band, Way, Obvious, Opening, Catastrophic}
use Rattle.act.specs.Limits.{opening_tested, opening_stopped, customer_stopped, catastrophic_stopped}
use Rattle.act.specs.Act.{opening_act, catastrophic_act, catastrophic_price, act_of}
use Rattle.act.specs.Tested.{same_side, tested_at, altered, Alike}

-- ---- the one limit of the opening way, on side s: it is the altered party's or it is not
opening_same : (s who : Side) (buyer seller limit : Price) (tp : Mills)
    → Alike who (pick (same_side who s) (Some tp) None) (by_side who buyer seller) limit
    → violates s (by_side s (pick (same_side who Buy) limit buyer) (pick (same_side who Sell) limit seller)) tp ≡ violates s (by_side s buyer seller) tp
opening_same Buy Buy buyer seller limit tp h = sym h
opening_same Buy Sell buyer seller limit tp h = refl
opening_same Sell Buy buyer seller limit tp h = refl
opening_same Sell Sell buyer seller limit tp h = sym h

-- ---- a limit of the catastrophic way: it counts where the party is a Customer
customer_same : (who : Side) (kind : Kind) (code code' : List ℕ) (old new : Price) (price : Mills)
    → Alike who (pick (is_customer kind) (Some price) None) old new
    → customer_stopped who (record { code = code'; limit = new; kind = kind }) price ≡ customer_stopped who (record { code = code; limit = old; kind = kind }) price
customer_same who Customer code code' old new price h = sym h
customer_same who MarketMaker code code' old new price h = refl
customer_same who Other code code' old new price h = refl

catastrophic_same : (who : Side) (buyer seller : Party) (code : List ℕ) (limit : Price) (price : Mills)
    → Alike who (pick (is_customer (by_side who buyer.kind seller.kind)) (Some price) None) (by_side who buyer.limit seller.limit) limit
    → catastrophic_stopped (altered who code limit Buy buyer) (altered who code limit Sell seller) price ≡ catastrophic_stopped buyer seller price
unfolding catastrophic_stopped
catastrophic_same Buy buyer seller code limit price h =
    ap (λ (stopped : Bool). stopped || customer_stopped Sell seller price)
    (customer_same Buy buyer.kind buyer.code code buyer.limit limit price h)
catastrophic_same Sell buyer seller code limit price h =
    ap (λ (stopped : Bool). customer_stopped Buy buyer price || stopped)
    (customer_same Sell seller.kind seller.code code seller.limit limit price h)

-- The party on side `who` may have any other code, and any other limit that the tested price, if there is one, violates or not just
-- as it did the old one: the act is the same.
pub act_blind : (way : Way) (side : Side) (buyer seller : Party) (accepted : Bool) (tp : Mills) (band : Band) (who : Side) (code : List ℕ) (limit : Price)
    → Alike who (tested_at way side buyer.kind seller.kind tp band who) (by_side who buyer.limit seller.limit) limit
    → act_of way side (altered who code limit Buy buyer) (altered who code limit Sell seller) accepted tp band ≡ act_of way side buyer seller accepted tp band
unfolding act_of tested_at opening_stopped
act_blind Obvious side buyer seller accepted tp band who code limit h = refl
act_blind Opening side buyer seller accepted tp band who code limit h =
    ap (λ (stopped : Bool). opening_act stopped (is_maker (by_side side seller.kind buyer.kind)) tp)
    (opening_same (opening_tested side buyer.kind seller.kind) who buyer.limit seller.limit limit tp h)
act_blind Catastrophic side buyer seller accepted tp band who code limit h =
    let price = catastrophic_price side tp band in
    ap (λ (stopped : Bool). catastrophic_act stopped accepted price) (catastrophic_same who buyer seller code limit price h)
