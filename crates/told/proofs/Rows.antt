-- Each row of an explanation stands in the bytes that spell what it tells: row by row, from the few facts that a row has a place for.
use Prim.Native.Nat.{ℕ, zero, suc}
use mathlib.Core.Bool.{Bool, true, false, ◌||◌}
use mathlib.Core.List.{List, [], ◌∷◌, ◌++◌}
use lib.Dec.{eqb}
use Rattle.wire.specs.Tests.{pick}
use Rattle.facts.specs.Numbers.{price_number, moment_number}
use Rattle.codes.specs.Codes.{kind_number, day_number, flag_number, agreement_number}
use Rattle.words.specs.Pieces.{blank}
use Rattle.words.specs.Names.{not_obvious_day_words, rule_obvious_words, not_opening_day_words, rule_opening_words, not_catastrophic_day_words, rule_catastrophic_words, price_counts_words, nullify_counts_words, rule_customer_limit_words, nullified_words, all_stand_words}
use Rattle.step_lines.specs.Rows.{money, kind_place, limit_place, quote_place}
use Rattle.step_lines.specs.Way.{since_piece, filed_row, day_row, past_row, trade_row, party_row, soon_row, late_row, expiry_day_row, expiry_late_row, next_late_row, obvious_shut, opening_shut, catastrophic_shut, before_rows, way_rows, panel_row}
use Rattle.step_lines.specs.Theory.{gap_row, spread_rows, quoted_row, official_row, unpriced_row, unpriced_rows}
use Rattle.step_lines.specs.Error.{high_place, low_place, error_row}
use Rattle.step_lines.specs.Agreed.{agreed_piece, made_row, none_row, agreement_row_for, agreement_row}
use Rattle.step_lines.specs.Act.{near_row, undone_row, obvious_row, itself_row, far_row, limit_row, opening_rule, counted_rows, acceptance_row, acceptance_rows, far_rows, even_rows}
use Rattle.step_lines.specs.Counts.{head_row, size_piece, adjusted_row, all_row, contracts_row}
use Rattle.told.specs.Words.{Mills, Contracts, Seconds, Side, Day, TradeDate, NextDay, Later, Agreement, NotMade, OnPrice, ToNullify, Way, Source, Clock, Tried, First, Second, Third, NoWay, Gap, Looked, Off, Limit, Near, Even, Far, Settled, Figures, Dollars, Who, Piece, Cover}
use Rattle.told.specs.Stands.{InBytes, StandsAt, Stands, AllStand, EachStands}

-- ---- what a test picked; rows and rows more; pieces without a place
pub picked : {A : Type 0} (P : A → Type 0) (b : Bool) (x y : A) → P x → P y → P (pick b x y)
picked P true x y p q = p
picked P false x y p q = q

abbrev Placeless : ℕ → Type 0
Placeless zero = Unit {0}
Placeless (suc n) = Unit {0} × Placeless n

placeless : (n : ℕ) → Placeless n
placeless zero = tt
placeless (suc n) = (tt, placeless n)

module _ (s : List ℕ) where
  pub rows_and : (xs ys : List (List Piece)) → EachStands s xs → EachStands s ys → EachStands s (xs ++ ys)
  rows_and [] ys p q = q
  rows_and (x ∷ xs) ys p q = (p.0, rows_and xs ys p.1 q)

  row_picked : (b : Bool) (x y : List Piece) → AllStand s x → AllStand s y → AllStand s (pick b x y)
  row_picked = picked (λ (r : List Piece). AllStand s r)

  pub rows_picked : (b : Bool) (x y : List (List Piece)) → EachStands s x → EachStands s y → EachStands s (pick b x y)
  rows_picked = picked (λ (r : List (List Piece)). EachStands s r)

-- ---- the way and the filing

-- what the ways ask stands in the bytes
pub record Clocked (s : List ℕ) (c : Clock) : Type 0 where
  pub kind : StandsAt s (kind_place c.side) (Who c.kind)
  pub opening : InBytes 1 s 45 (flag_number c.opening)
  pub expiry : InBytes 1 s 46 (flag_number c.expiry)
  pub decided : InBytes 1 s 47 (flag_number c.decided)
  pub day : InBytes 1 s 66 (day_number c.day)
  pub executed : InBytes 4 s 16 c.executed.0
  pub filed : InBytes 4 s 72 c.filed.0

module _ (s : List ℕ) (c : Clock) (h : Clocked s c) where
  since_stands : (d : Day) (t : Seconds) → Stands s (since_piece d t)
  since_stands TradeDate t = tt
  since_stands NextDay t = tt
  since_stands Later t = tt

  filed_stands : (t : Tried) → AllStand s (filed_row c t)
  unfolding filed_row
  filed_stands t = (h.filed, (h.day, (since_stands c.day c.since, (h.executed, placeless 6))))

  day_stands : (phrase rule : ℕ) → AllStand s (day_row phrase rule c)
  unfolding day_row
  day_stands phrase rule = (h.day, placeless 9)

  past_stands : AllStand s (past_row c)
  unfolding past_row
  past_stands = (h.kind, placeless 9)

  trade_stands : AllStand s (trade_row c)
  unfolding trade_row
  trade_stands = (h.opening, placeless 9)

  party_stands : AllStand s (party_row c)
  unfolding party_row
  party_stands = (h.kind, placeless 9)

  soon_stands : AllStand s soon_row
  unfolding soon_row
  soon_stands = placeless 10

  late_stands : AllStand s late_row
  unfolding late_row
  late_stands = placeless 10

  expiry_day_stands : AllStand s (expiry_day_row c)
  unfolding expiry_day_row
  expiry_day_stands = (h.expiry, (h.day, placeless 8))

  expiry_late_stands : AllStand s (expiry_late_row c)
  unfolding expiry_late_row
  expiry_late_stands = (h.expiry, placeless 9)

  next_late_stands : AllStand s next_late_row
  unfolding next_late_row
  next_late_stands = placeless 10

  obvious_stands : (cause : ℕ) → AllStand s (obvious_shut cause c)
  obvious_stands cause =
      row_picked s (eqb cause 1) (day_row not_obvious_day_words rule_obvious_words c) (past_row c) (day_stands not_obvious_day_words rule_obvious_words) past_stands

  opening_stands : (cause : ℕ) → AllStand s (opening_shut cause c)
  opening_stands cause =
      row_picked s (eqb cause 1) (day_row not_opening_day_words rule_opening_words c) _ (day_stands not_opening_day_words rule_opening_words)
      (row_picked s (eqb cause 3) (trade_row c) _ trade_stands
      (row_picked s (eqb cause 4) (party_row c) _ party_stands (row_picked s (eqb cause 5) soon_row late_row soon_stands late_stands)))

  catastrophic_stands : (cause : ℕ) → AllStand s (catastrophic_shut cause c)
  catastrophic_stands cause =
      row_picked s (eqb cause 1) (expiry_day_row c) _ expiry_day_stands
      (row_picked s (eqb cause 7) (expiry_late_row c) _ expiry_late_stands
      (row_picked s (eqb cause 8) (day_row not_catastrophic_day_words rule_catastrophic_words c) next_late_row (day_stands not_catastrophic_day_words rule_catastrophic_words) next_late_stands))

  before_stands : (t : Tried) → EachStands s (before_rows c t)
  before_stands First = tt
  before_stands (Second o) = (obvious_stands o, tt)
  before_stands (Third w) = (obvious_stands w.obvious, (opening_stands w.opening, tt))
  before_stands (NoWay w) = (obvious_stands w.obvious, (opening_stands w.opening, (catastrophic_stands w.catastrophic, tt)))

  pub way_stands : (t : Tried) → EachStands s (way_rows c t)
  way_stands t = (filed_stands t, before_stands t)

  pub panel_stands : AllStand s (panel_row c)
  unfolding panel_row
  panel_stands = (h.decided, placeless 9)

-- ---- the quotes and TP

pub gap_stands : (s : List ℕ) (g : Gap) → InBytes 4 s 24 g.offer.0 → InBytes 4 s 20 g.bid.0 → InBytes 4 s 88 g.differential.0
    → AllStand s (gap_row g)
unfolding gap_row
gap_stands s g offer bid differential = (offer, (bid, (differential, placeless 7)))

-- the market as it was looked at stands in the bytes
pub record Seen (s : List ℕ) (side : Side) (l : Looked) : Type 0 where
  pub quote : StandsAt s (quote_place side) (Dollars l.quote)
  pub official : InBytes 4 s 40 (price_number l.official)
  pub spread : EachStands s (spread_rows l.spread)

module _ (s : List ℕ) (side : Side) where
  pub quoted_stands : (src : Source) → StandsAt s (quote_place side) (money src.price) → AllStand s (quoted_row side src)
  unfolding quoted_row
  quoted_stands src q = (q, placeless 9)

  pub official_stands : (l : Looked) (src : Source) → Seen s side l → InBytes 4 s 40 src.price.0 → AllStand s (official_row side l src)
  unfolding official_row
  official_stands l src h o = (o, (tt, (h.quote, placeless 7)))

  unpriced_stands : (l : Looked) → Seen s side l → AllStand s (unpriced_row side l)
  unfolding unpriced_row
  unpriced_stands l h = (h.official, (h.quote, placeless 8))

  pub unpriced_rows_lem : (l : Looked) → Seen s side l → EachStands s (unpriced_rows side l)
  unpriced_rows_lem l h = rows_and s (spread_rows l.spread) (unpriced_row side l ∷ []) h.spread (unpriced_stands l h, tt)

-- ---- the error
pub error_stands : (s : List ℕ) (side : Side) (way : Way) (o : Off) → StandsAt s (high_place side) (money o.high) → StandsAt s (low_place side) (money o.low)
    → AllStand s (error_row side way o)
unfolding error_row
error_stands s side way o high low = (high, (low, placeless 8))

-- ---- agreement
module _
    (s : List ℕ)
    (g : Settled)
    (agreement : InBytes 1 s 67 (agreement_number g.terms.agreement))
    (agreed : InBytes 4 s 68 (price_number g.terms.agreed))
    (made : InBytes 4 s 76 g.terms.made.0)
  where
    made_stands : (price : Piece) (counts : ℕ) → Stands s price → AllStand s (made_row price counts g)
    unfolding made_row
    made_stands price counts p = (agreement, (p, (made, placeless 7)))

    none_stands : AllStand s (none_row g)
    unfolding none_row
    none_stands = (agreement, placeless 9)

    agreement_stands_for : (a : Agreement) → AllStand s (agreement_row_for a g)
    agreement_stands_for NotMade = none_stands
    agreement_stands_for OnPrice = made_stands (agreed_piece g.terms.agreed) price_counts_words agreed
    agreement_stands_for ToNullify = made_stands blank nullify_counts_words tt

    pub agreement_stands : AllStand s (agreement_row g)
    unfolding agreement_row
    agreement_stands = agreement_stands_for g.terms.agreement

-- ---- the act

-- a party's kind and limit stand in the bytes
pub record Limited (s : List ℕ) (l : Limit) : Type 0 where
  pub kind : StandsAt s (kind_place l.side) (Who l.kind)
  pub limit : StandsAt s (limit_place l.side) (Dollars l.limit)

module _ (s : List ℕ) where
  near_stands : (side : Side) (tp : Mills) (a : Near) → InBytes 1 s 64 (kind_number a.buyer) → InBytes 1 s 65 (kind_number a.seller) → AllStand s (near_row side tp a)
  unfolding near_row
  near_stands side tp a buyer seller = (buyer, (seller, placeless 8))

  undone_stands : (a : Near) → InBytes 1 s 64 (kind_number a.buyer) → InBytes 1 s 65 (kind_number a.seller) → AllStand s (undone_row a)
  unfolding undone_row
  undone_stands a buyer seller = (buyer, (seller, placeless 8))

  pub obvious_act_stands : (side : Side) (tp : Mills) (a : Near) → InBytes 1 s 64 (kind_number a.buyer) → InBytes 1 s 65 (kind_number a.seller)
      → AllStand s (obvious_row side tp a)
  obvious_act_stands side tp a buyer seller =
      row_picked s a.customer (undone_row a) (near_row side tp a) (undone_stands a buyer seller) (near_stands side tp a buyer seller)

  itself_stands : (tp : Mills) → AllStand s (itself_row tp)
  unfolding itself_row
  itself_stands tp = placeless 10

  far_stands : (side : Side) (tp : Mills) (a : Far) → AllStand s (far_row side tp a)
  unfolding far_row
  far_stands side tp a = placeless 10

  limit_stands : (rule : ℕ) (l : Limit) → Limited s l → AllStand s (limit_row rule l)
  unfolding limit_row
  limit_stands rule l h = (h.kind, (h.limit, placeless 8))

  counted_stands : (l : Limit) → Limited s l → EachStands s (counted_rows l)
  counted_stands l h =
      rows_picked s l.counts (limit_row rule_customer_limit_words l ∷ []) [] (limit_stands rule_customer_limit_words l h, tt) tt

  acceptance_stands : (a : Far) → InBytes 4 s 80 (moment_number a.accepted) → AllStand s (acceptance_row a)
  unfolding acceptance_row
  acceptance_stands a accepted = (accepted, placeless 9)

  acceptance_rows_lem : (a : Far) → InBytes 4 s 80 (moment_number a.accepted) → EachStands s (acceptance_rows a)
  acceptance_rows_lem a accepted = rows_picked s (a.buyer.stopped || a.seller.stopped) (acceptance_row a ∷ []) [] (acceptance_stands a accepted, tt) tt

  pub even_rows_lem : (tp : Mills) (a : Even) → Limited s a.tested → EachStands s (even_rows tp a)
  even_rows_lem tp a h = (itself_stands tp, (limit_stands (opening_rule a.maker) a.tested h, tt))

  pub far_rows_lem : (side : Side) (tp : Mills) (a : Far) → Limited s a.buyer → Limited s a.seller → InBytes 4 s 80 (moment_number a.accepted)
      → EachStands s (far_rows side tp a)
  far_rows_lem side tp a buyer seller accepted =
      rows_and s ((far_row side tp a ∷ counted_rows a.buyer) ++ counted_rows a.seller) (acceptance_rows a)
      (rows_and s (far_row side tp a ∷ counted_rows a.buyer) (counted_rows a.seller) (far_stands side tp a, counted_stands a.buyer buyer) (counted_stands a.seller seller))
      (acceptance_rows_lem a accepted)

-- ---- the head and the contracts
module _ (s : List ℕ) (n : Figures) where
  pub head_stands : AllStand s (head_row n)
  unfolding head_row
  head_stands = placeless 10

  module _ (traded : Contracts) (h : InBytes 4 s 12 traded.0) where
    all_stands : (count phrase : ℕ) → AllStand s (all_row traded count phrase)
    unfolding all_row
    all_stands count phrase = (tt, (h, placeless 8))

    adjusted_stands : (side : Side) (cover : Cover) → Stands s (size_piece side cover) → AllStand s (adjusted_row traded side cover n)
    unfolding adjusted_row
    adjusted_stands side cover size = (tt, (h, (tt, (tt, (tt, (size, placeless 4))))))

    pub contracts_stand : (side : Side) (cover : Cover) → Stands s (size_piece side cover) → AllStand s (contracts_row traded side cover n)
    contracts_stand side cover size =
        row_picked s (eqb n.outcome 1) (adjusted_row traded side cover n) _ (adjusted_stands side cover size)
        (row_picked s (eqb n.outcome 2) (all_row traded n.nullified nullified_words) (all_row traded n.standing all_stand_words)
        (all_stands n.nullified nullified_words)
        (all_stands n.standing all_stand_words))
