-- What the quotes, the error, the act and agreement found (RULE R5 to R8).
use Rattle.std.specs.Prelude.{ℕ, suc, ◌+◌, ◌-◌, ◌*◌, min, Bool, true, false, ◌&&◌, ◌||◌, List, [], ◌∷◌, leb}
use Rattle.wire.specs.Tests.{pick, first_failed}
use Rattle.facts.specs.Numbers.{mills}
use Rattle.facts.specs.Limits.{violates}
use Rattle.forms.specs.Forms.{differential_of}
use Rattle.width.specs.Width.{apart as farApart}
use Rattle.theory.specs.Theory.{quote_for}
use Rattle.parties.specs.Parties.{is_customer, is_maker, by_side, any_customer}
use Rattle.bands.specs.Table.{band_of, rows}
use Rattle.bands.specs.Amounts.{obvious_adjustment_of, in_error, moved_by, largest}
use Rattle.agreement.specs.Agreed.{in_time, may_nullify, accepted_in_time}
use Rattle.act.specs.Minimum.{minimum_of}
use Rattle.act.specs.Limits.{opening_tested}
use Rattle.steps.specs.Words.{Mills, Price, Some, None, Side, Buy, Sell, Form, Market, Party, Moment, Agreement, NotMade, OnPrice, ToNullify, Settlement, Band, Way, Obvious, Opening, Catastrophic, Gap, Spread, Looked, Off, Limit, Near, Even, Far, Acting, OnObvious, OnOpening, OnCatastrophic}

-- ---- the quotes

-- the bid, the offer, the differential, the bid plus twice the differential, and whether the offer is at least that (RULE R5.6)
unfoldable pub gap_of : Mills → Mills → Mills → Gap
gap_of differential bid offer =
    record {
      differential = differential;
      bid = bid;
      offer = offer;
      reach = mills (min (bid.0 + 2 * differential.0) largest);
      wide = farApart differential bid offer;
    }

-- asked of a record with a differential where both quotes are there
abbrev pub spread_from : Price → Price → Price → Spread
spread_from (Some differential) (Some bid) (Some offer) = Some (gap_of differential bid offer)
spread_from (Some differential) (Some bid) None = None
spread_from (Some differential) None offer = None
spread_from None bid offer = None

-- the quote on the side in error as it stands, the official's price, and whether the quotes are too wide to trust
unfoldable pub looked_of : Form → Side → Market → Looked
looked_of form side m =
    record {
      quote = (quote_for side m).price;
      official = m.official;
      spread = spread_from (differential_of form) m.bid.price m.offer.price;
    }

-- ---- the error

-- how far apart two prices are
unfoldable pub apart : Mills → Mills → Mills
apart a b = mills ((a.0 - b.0) + (b.0 - a.0))

-- in any table: the lowest TP that the row for a TP serves, one mill above the row before it
abbrev pub floor_among : ℕ → List Band → Mills → Mills
floor_among low [] tp = mills low
floor_among low (b ∷ bs) tp = pick (leb tp.0 b.top.0) (mills low) (floor_among (suc b.top.0) bs tp)

unfoldable pub floor_of : Mills → Mills
floor_of tp = floor_among 0 rows tp

-- The row for TP, the way's minimum in it, and the two prices: a buy is in error whose execution is at least TP plus the minimum, a sell
-- whose TP is at least the execution plus the minimum. `by` is how far the price that is tested, `high`, is from there.
unfoldable pub error_of : Side → Mills → Mills → Way → Off
error_of side execution tp way =
    let least = minimum_of way (band_of tp) in
    let reach = moved_by Buy (by_side side tp execution) least in
    record {
      row = band_of tp;
      floor = floor_of tp;
      minimum = least;
      low = by_side side tp execution;
      high = by_side side execution tp;
      reach = reach;
      wrong = in_error side execution tp least;
      by = apart reach (by_side side execution tp);
    }

-- ---- the act

-- a party's limit, the price that is held against it, whether it counts, and whether the price violates it
unfoldable pub limit_of : Side → Party → Bool → Mills → Limit
limit_of side p counts price =
    record {
      side = side;
      kind = p.kind;
      limit = p.limit;
      price = price;
      counts = counts;
      stopped = counts && violates side p.limit price;
    }

-- obvious: whether some party is a Customer, and the price that the trade gets where none is
unfoldable pub obvious_step : Side → Party → Party → Mills → Near
obvious_step side buyer seller tp =
    record {
      buyer = buyer.kind;
      seller = seller.kind;
      customer = any_customer buyer.kind seller.kind;
      by = obvious_adjustment_of tp;
      price = moved_by side tp (obvious_adjustment_of tp);
    }

-- opening: the one limit that is tested against TP
unfoldable pub opening_step : Side → Party → Party → Mills → Even
opening_step side buyer seller tp =
    let tested = opening_tested side buyer.kind seller.kind in
    record { maker = is_maker (by_side side seller.kind buyer.kind); tested = limit_of tested (by_side tested buyer seller) true tp }

-- catastrophic: the price, the limits of the parties, of which a Customer's counts, and the acceptance
unfoldable pub catastrophic_step : Side → Party → Party → Moment → Mills → Band → Far
catastrophic_step side buyer seller accepted tp band =
    let price = moved_by side tp band.adjustment in
    record {
      by = band.adjustment;
      price = price;
      buyer = limit_of Buy buyer (is_customer buyer.kind) price;
      seller = limit_of Sell seller (is_customer seller.kind) price;
      accepted = accepted;
      timely = accepted_in_time accepted;
    }

abbrev pub act_step_of : Way → Side → Party → Party → Moment → Mills → Band → Acting
act_step_of Obvious side buyer seller accepted tp band = OnObvious (obvious_step side buyer seller tp)
act_step_of Opening side buyer seller accepted tp band = OnOpening (opening_step side buyer seller tp)
act_step_of Catastrophic side buyer seller accepted tp band = OnCatastrophic (catastrophic_step side buyer seller accepted tp band)

-- ---- agreement

abbrev pub is_made : Agreement → Bool
is_made NotMade = false
is_made OnPrice = true
is_made ToNullify = true

abbrev pub is_on_price : Agreement → Bool
is_on_price NotMade = false
is_on_price OnPrice = true
is_on_price ToNullify = false

-- why an agreement does not count, 0 where it does: 1 none was made, 2 too late, 3 to nullify, where it may not
unfoldable pub ignored_why : Settlement → Way → Bool → ℕ
ignored_why s way customer =
    first_failed (
    (1, is_made s.agreement)
    ∷ (2, in_time s.made customer)
    ∷ (3, is_on_price s.agreement || may_nullify way customer)
    ∷ []
    )
