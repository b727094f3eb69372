use mathlib.Core.List.{List, [], ◌∷◌}
use Rattle.std.proofs.Common.{rules}
use Rattle.forms.specs.Forms.{form_of}
use Rattle.blame.specs.Words.{Field, ExecutionPrice, BestBid, BestOffer, OfficialPrice, BuyerLimit, SellerLimit, AgreedPrice}
use Rattle.blame.specs.Fields.{within, or_none, money_field, differential_fields}
use Rattle.blame.proofs.Found.{then_row}
use Rattle.blame.proofs.price_blame.Goals as goal

pub returns : goal.returns
returns c =
    let s = c.args.s.now in
    let all_have : List Field =
    money_field s ExecutionPrice 8 (within 0 9999999)
    ∷ money_field s BestBid 20 (or_none 0 9999999)
    ∷ money_field s BestOffer 24 (or_none 0 9999999)
    ∷ money_field s OfficialPrice 40 (or_none 0 9999999)
    ∷ money_field s BuyerLimit 52 (or_none 0 9999999)
    ∷ money_field s SellerLimit 60 (or_none 0 9999999)
    ∷ money_field s AgreedPrice 68 (or_none 0 9999999)
    ∷ [] in
    then_row all_have (differential_fields (form_of s) s) c.first_bad.result c.or_else.result (search rules) c.or_else.ensures (λ p. search rules)
