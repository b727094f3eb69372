-- The act's rows (RULE R17.9): how the price was found, the limits that it was held against, and the acceptance where one was asked for.
use Rattle.std.specs.Prelude.{ℕ, Bool, ◌||◌, List, [], ◌∷◌, ◌++◌}
use Rattle.wire.specs.Tests.{pick}
use Rattle.parties.specs.Parties.{by_side}
use Rattle.agreement.specs.Agreed.{acceptance_time}
use Rattle.words.specs.Names.{plus_words, minus_words, equals_words, semicolon_words, colon_words, act_buyer_words, seller_is_words, undone_words, rule_obvious_act_words, act_itself_words, rule_opening_act_words, act_words, rule_catastrophic_act_words, limit_buyer_words, limit_seller_words, its_limit_words, is_above_words, is_below_words, keeps_words, rule_own_limit_words, rule_other_limit_words, rule_customer_limit_words, acceptance_words, allowed_words, in_time_words, not_in_time_words}
use Rattle.words.specs.Pieces.{bytes_at, say, tell, found, blank}
use Rattle.step_lines.specs.Words.{Mills, Side, Limit, Near, Even, Far, Acting, OnObvious, OnOpening, OnCatastrophic, End, PriceCounts, NullifyCounts, Acted, Dollars, Who, Lapse, Piece}
use Rattle.step_lines.specs.Rows.{money, passed, kind_place, limit_place}

-- plus for a buy, minus for a sell
abbrev pub move_words : Side → ℕ
move_words side = by_side side plus_words minus_words

-- obvious: the kinds of the parties, and the price, or that the trade is undone
unfoldable pub near_row : Side → Mills → Near → List Piece
near_row side tp a =
    found act_buyer_words (Who a.buyer) (bytes_at 64 1)
    ∷ found seller_is_words (Who a.seller) (bytes_at 65 1)
    ∷ tell colon_words (money tp)
    ∷ tell (move_words side) (money a.by)
    ∷ tell equals_words (money a.price)
    ∷ say rule_obvious_act_words
    ∷ blank ∷ blank ∷ blank ∷ blank ∷ []

unfoldable pub undone_row : Near → List Piece
undone_row a =
    found act_buyer_words (Who a.buyer) (bytes_at 64 1)
    ∷ found seller_is_words (Who a.seller) (bytes_at 65 1)
    ∷ say undone_words
    ∷ blank ∷ blank ∷ blank ∷ blank ∷ blank ∷ blank ∷ blank ∷ []

abbrev pub obvious_row : Side → Mills → Near → List Piece
obvious_row side tp a = pick a.customer (undone_row a) (near_row side tp a)

-- opening: TP itself
unfoldable pub itself_row : Mills → List Piece
itself_row tp = tell act_itself_words (money tp) ∷ say rule_opening_act_words ∷ blank ∷ blank ∷ blank ∷ blank ∷ blank ∷ blank ∷ blank ∷ blank ∷ []

-- catastrophic: TP plus or minus the adjustment
unfoldable pub far_row : Side → Mills → Far → List Piece
far_row side tp a =
    tell act_words (money tp)
    ∷ tell (move_words side) (money a.by)
    ∷ tell equals_words (money a.price)
    ∷ say rule_catastrophic_act_words
    ∷ blank ∷ blank ∷ blank ∷ blank ∷ blank ∷ blank ∷ []

-- a limit that was tested: whose it is, and on which side of it the price lies
abbrev pub violated : Limit → ℕ
violated l = pick l.stopped (by_side l.side is_above_words is_below_words) keeps_words

unfoldable pub limit_row : ℕ → Limit → List Piece
limit_row rule l =
    found (by_side l.side limit_buyer_words limit_seller_words) (Who l.kind) (kind_place l.side)
    ∷ found its_limit_words (Dollars l.limit) (limit_place l.side)
    ∷ tell semicolon_words (money l.price)
    ∷ say (violated l)
    ∷ say rule
    ∷ blank ∷ blank ∷ blank ∷ blank ∷ blank ∷ []

-- the Customer's own where the other party is a Market Maker, else the other party's
abbrev pub opening_rule : Bool → ℕ
opening_rule maker = pick maker rule_own_limit_words rule_other_limit_words

-- of the catastrophic way only a Customer's is tested
abbrev pub counted_rows : Limit → List (List Piece)
counted_rows l = pick l.counts (limit_row rule_customer_limit_words l ∷ []) []

unfoldable pub acceptance_row : Far → List Piece
acceptance_row a =
    found acceptance_words (Lapse a.accepted) (bytes_at 80 4)
    ∷ tell allowed_words (passed acceptance_time)
    ∷ say (pick a.timely in_time_words not_in_time_words)
    ∷ blank ∷ blank ∷ blank ∷ blank ∷ blank ∷ blank ∷ blank ∷ []

-- asked where a limit stopped the price
abbrev pub acceptance_rows : Far → List (List Piece)
acceptance_rows a = pick (a.buyer.stopped || a.seller.stopped) (acceptance_row a ∷ []) []

abbrev pub far_rows : Side → Mills → Far → List (List Piece)
far_rows side tp a = ((far_row side tp a ∷ counted_rows a.buyer) ++ counted_rows a.seller) ++ acceptance_rows a

abbrev pub even_rows : Mills → Even → List (List Piece)
even_rows tp a = itself_row tp ∷ limit_row (opening_rule a.maker) a.tested ∷ []

abbrev pub act_rows : Side → Mills → Acting → List (List Piece)
act_rows side tp (OnObvious a) = obvious_row side tp a ∷ []
act_rows side tp (OnOpening a) = even_rows tp a
act_rows side tp (OnCatastrophic a) = far_rows side tp a

-- where an agreement counts no act is reached
abbrev pub end_rows : Side → Mills → End → List (List Piece)
end_rows side tp (PriceCounts p) = []
end_rows side tp NullifyCounts = []
end_rows side tp (Acted a) = act_rows side tp a
