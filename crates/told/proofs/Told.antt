-- What the rows of a ruled case tell is so. Every number that they tell with a place in the record stands at that place, and the record has that place: of any
-- bytes that have the form of a case, and so of every case that is accepted (`told_stand`, `told_accepted`). The head and the contracts, which have no place, are those of
-- the ruling: it makes no difference whether they are taken from the ruling or from the steps (`ruling_told`).
use Prim.Native.Nat.{ℕ}
use mathlib.Core.Path.{◌≡◌, refl, sym, ap, subst}
use mathlib.Core.Bool.{Bool, true, false}
use mathlib.Core.List.{List, [], ◌∷◌, ◌++◌}
use Rattle.facts.specs.Numbers.{price_number}
use Rattle.forms.specs.Forms.{differential_of}
use Rattle.record.specs.Record.{facts_of}
use Rattle.cases.specs.Cases.{Formed, reading_of}
use Rattle.cases.specs.declared.Reading.{Reading}
use Rattle.cases.proofs.Laws.{formed, accepted_form, accepted_reading}
use Rattle.bands.specs.Table.{band_of}
use Rattle.parties.specs.Parties.{by_side, is_customer, any_customer}
use Rattle.theory.specs.Theory.{quote_for, theory_of}
use Rattle.agreement.specs.Agreed.{heeded_of}
use Rattle.act.specs.Limits.{opening_tested}
use Rattle.ruling.specs.Ruling.{ruling_of}
use Rattle.figures.specs.Figures.{figures_of}
use Rattle.steps.specs.Tried.{clock_of, tried_of, open_of}
use Rattle.steps.specs.Found.{gap_of, spread_from, looked_of, error_of, limit_of, obvious_step, opening_step, catastrophic_step, act_step_of}
use Rattle.steps.specs.Steps.{end_of, settled_of, after_of, judged_of, reached_from, reached_on, reached_by, reached_if, steps_of}
use Rattle.steps.specs.Ruling.{ruling_from}
use Rattle.steps.proofs.Theory.{quoted_told, official_told}
use Rattle.steps.proofs.Made.{ruling_made}
use Rattle.step_lines.specs.Rows.{money, kind_place, quote_place, size_place}
use Rattle.step_lines.specs.Way.{way_rows}
use Rattle.step_lines.specs.Theory.{spread_rows, source_row}
use Rattle.step_lines.specs.Error.{high_place, low_place, error_row}
use Rattle.step_lines.specs.Act.{act_rows, end_rows}
use Rattle.step_lines.specs.Counts.{head_row, cover_on, cover_of, size_piece, contracts_row}
use Rattle.step_lines.specs.Explained.{settled_rows, after_rows, judged_rows, reached_rows, ruled_rows}
use Rattle.told.specs.Words.{Mills, Contracts, Price, Some, None, Side, Buy, Sell, Facts, Band, Way, Obvious, Opening, Catastrophic, Open, Origin, Quoted, Official, Source, Theory, Heeded, Ignored, Repriced, Undone, Ruling, Clock, Reached, Decided, Figures, Count, Dollars, Who}
use Rattle.told.specs.Stands.{InBytes, StandsAt, Stands, AllStand, EachStands}
use Rattle.told.specs.Spelled.{Spelled}
use Rattle.told.proofs.Spelled.{facts_spelled}
use Rattle.told.proofs.Rows.{picked, rows_and, Clocked, way_stands, panel_stands, gap_stands, Seen, quoted_stands, official_stands, unpriced_rows_lem, error_stands, agreement_stands, Limited, obvious_act_stands, even_rows_lem, far_rows_lem, head_stands, contracts_stand}

-- the clock of these facts
abbrev clock_in : Facts → Clock
clock_in f = clock_of f.trade.executed f.request (by_side f.request.side f.buyer.kind f.seller.kind)

-- the rows after the way, and the size that the contracts' row tells, stand in the bytes
abbrev StandsFrom : List ℕ → Facts → Reached → Type 0
StandsFrom s f r = EachStands s (reached_rows (clock_in f) r) × Stands s (size_piece f.request.side (cover_of r))

module _ (s : List ℕ) (f : Facts) (h : Spelled s f) where
  -- ---- what stands on the one side or the other
  kind_on : (side : Side) → StandsAt s (kind_place side) (Who (by_side side f.buyer.kind f.seller.kind))
  kind_on Buy = h.buyer
  kind_on Sell = h.seller

  quote_on : (side : Side) → StandsAt s (quote_place side) (Dollars (quote_for side f.market).price)
  quote_on Buy = h.offer
  quote_on Sell = h.bid

  size_on : (side : Side) → StandsAt s (size_place side) (Count (quote_for side f.market).size.0)
  size_on Buy = h.offers
  size_on Sell = h.bids

  high_on : (side : Side) (tp : Mills) → StandsAt s (high_place side) (money (by_side side f.trade.price tp))
  high_on Buy tp = h.price
  high_on Sell tp = tt

  low_on : (side : Side) (tp : Mills) → StandsAt s (low_place side) (money (by_side side tp f.trade.price))
  low_on Buy tp = tt
  low_on Sell tp = h.price

  limited_on : (side : Side) (counts : Bool) (price : Mills) → Limited s (limit_of side (by_side side f.buyer f.seller) counts price)
  unfolding limit_of
  limited_on Buy counts price = record { kind = h.buyer; limit = h.highest }
  limited_on Sell counts price = record { kind = h.seller; limit = h.lowest }

  -- ---- the way
  clocked : Clocked s (clock_in f)
  unfolding clock_of
  clocked =
      record {
        kind = kind_on f.request.side;
        opening = h.opening;
        expiry = h.expiry;
        decided = h.decided;
        day = h.day;
        executed = h.executed;
        filed = h.filed;
      }

  -- ---- the quotes and TP
  price_as : {p q : Price} (at : ℕ) → p ≡ q → InBytes 4 s at (price_number p) → InBytes 4 s at (price_number q)
  price_as at e = subst (λ (p : Price). InBytes 4 s at (price_number p)) e

  spread_stands : (d b o : Price) → differential_of f.form ≡ d → f.market.bid.price ≡ b → f.market.offer.price ≡ o
      → EachStands s (spread_rows (spread_from d b o))
  unfolding gap_of
  spread_stands (Some d) (Some b) (Some o) x y z =
      (gap_stands s (gap_of d b o) (price_as 24 z h.offer) (price_as 20 y h.bid) (h.differential d x), tt)
  spread_stands (Some d) (Some b) None x y z = tt
  spread_stands (Some d) None o x y z = tt
  spread_stands None b o x y z = tt

  seen : (side : Side) → Seen s side (looked_of f.form side f.market)
  unfolding looked_of
  seen side =
      record {
        quote = quote_on side;
        official = h.official;
        spread = spread_stands (differential_of f.form) f.market.bid.price f.market.offer.price refl refl refl;
      }

  module _ (side : Side) (src : Source) (t : theory_of f.form side f.market ≡ Some src) where
    source_stands : (o : Origin) → src.origin ≡ o → AllStand s (source_row side (looked_of f.form side f.market) src o)
    source_stands (Quoted n) e =
        quoted_stands s side src
        (subst (λ (p : Price). StandsAt s (quote_place side) (Dollars p)) (quoted_told f.form side f.market src n t e).0 (quote_on side))
    source_stands Official e =
        official_stands s side (looked_of f.form side f.market) src (seen side)
        (price_as 40 (official_told f.form side f.market src t e) h.official)

    -- the size of the quote, where the contracts' row tells it
    cover_stands : (way : Way) (o : Origin) → src.origin ≡ o → Stands s (size_piece side (cover_on way o))
    cover_stands Obvious o e = tt
    cover_stands Opening (Quoted n) e =
        subst (λ (k : Contracts). StandsAt s (size_place side) (Count k.0)) (quoted_told f.form side f.market src n t e).1 (size_on side)
    cover_stands Opening Official e = tt
    cover_stands Catastrophic o e = tt

  -- ---- the error
  off_stands : (side : Side) (way : Way) (tp : Mills) → AllStand s (error_row side way (error_of side f.trade.price tp way))
  unfolding error_of
  off_stands side way tp = error_stands s side way (error_of side f.trade.price tp way) (high_on side tp) (low_on side tp)

  -- ---- the act
  act_rows_lem : (way : Way) (side : Side) (tp : Mills) (band : Band)
      → EachStands s (act_rows side tp (act_step_of way side f.buyer f.seller f.settlement.accepted tp band))
  unfolding obvious_step opening_step catastrophic_step
  act_rows_lem Obvious side tp band = (obvious_act_stands s side tp (obvious_step side f.buyer f.seller tp) h.buyer h.seller, tt)
  act_rows_lem Opening side tp band =
      even_rows_lem s tp (opening_step side f.buyer f.seller tp) (limited_on (opening_tested side f.buyer.kind f.seller.kind) true tp)
  act_rows_lem Catastrophic side tp band =
      let a = catastrophic_step side f.buyer f.seller f.settlement.accepted tp band in
      far_rows_lem s side tp a
      (limited_on Buy (is_customer f.buyer.kind) a.price)
      (limited_on Sell (is_customer f.seller.kind) a.price)
      h.accepted

  -- ---- agreement, and the act where none counts
  end_rows_lem : (way : Way) (src : Source) (e : Heeded) → EachStands s (end_rows f.request.side src.price (end_of f way src e))
  end_rows_lem way src (Repriced p) = tt
  end_rows_lem way src Undone = tt
  end_rows_lem way src Ignored = act_rows_lem way f.request.side src.price (band_of src.price)

  settled_rows_lem : (way : Way) (src : Source) → EachStands s (settled_rows f.request.side src.price (settled_of f way src))
  unfolding settled_of
  settled_rows_lem way src = (
    agreement_stands s (settled_of f way src) h.agreement h.agreed h.made,
    end_rows_lem way src (heeded_of f.settlement way (any_customer f.buyer.kind f.seller.kind)),
  )

  after_rows_lem : (way : Way) (src : Source) (wrong : Bool) → EachStands s (after_rows f.request.side src.price (after_of f way src wrong))
  after_rows_lem way src true = settled_rows_lem way src
  after_rows_lem way src false = tt

  -- ---- from the quotes on
  judged_rows_lem : (way : Way) (src : Source) → theory_of f.form f.request.side f.market ≡ Some src
      → EachStands s (judged_rows f.request.side (judged_of f way src))
  unfolding judged_rows judged_of
  judged_rows_lem way src t =
      let side = f.request.side in
      let l = looked_of f.form side f.market in
      let off = error_of side f.trade.price src.price way in
      let source = source_row side l src src.origin in
      rows_and s ((spread_rows l.spread ++ (source ∷ [])) ++ (error_row side way off ∷ [])) (after_rows side src.price (after_of f way src off.wrong))
      (rows_and s (spread_rows l.spread ++ (source ∷ [])) (error_row side way off ∷ [])
      (rows_and s (spread_rows l.spread) (source ∷ []) (seen side).spread (source_stands side src t src.origin refl, tt))
      (off_stands side way src.price, tt))
      (after_rows_lem way src off.wrong)

  from_stands : (way : Way) (t : Theory) → theory_of f.form f.request.side f.market ≡ t → StandsFrom s f (reached_from f way t)
  unfolding clock_of judged_of
  from_stands way (Some src) e = (judged_rows_lem way src e, cover_stands f.request.side src e way src.origin refl)
  from_stands way None e = (unpriced_rows_lem s f.request.side (looked_of f.form f.request.side f.market) (seen f.request.side), tt)

  on_stands : (way : Way) → StandsFrom s f (reached_on f way)
  unfolding reached_on
  on_stands way = from_stands way (theory_of f.form f.request.side f.market) refl

  if_stands : (o : Open) → StandsFrom s f (reached_if f o)
  unfolding reached_by
  if_stands (Some Obvious) = on_stands Obvious
  if_stands (Some Opening) = on_stands Opening
  if_stands (Some Catastrophic) =
      picked (λ (r : Reached). StandsFrom s f r) f.request.decided Decided (reached_on f Catastrophic)
      ((panel_stands s (clock_in f) clocked, tt), tt)
      (on_stands Catastrophic)
  if_stands None = (tt, tt)

  -- ---- the whole: of any facts that the bytes spell
  pub spelled_stand : (n : Figures) → EachStands s (ruled_rows (steps_of f) n)
  unfolding ruled_rows steps_of clock_of
  spelled_stand n =
      let c = clock_in f in
      let tried = tried_of f.trade.executed f.request (by_side f.request.side f.buyer.kind f.seller.kind) in
      let r = reached_if f (open_of tried) in
      let after = if_stands (open_of tried) in
      rows_and s ((head_row n ∷ way_rows c tried) ++ reached_rows c r)
      (contracts_row f.trade.contracts f.request.side (cover_of r) n ∷ [])
      (rows_and s (head_row n ∷ way_rows c tried) (reached_rows c r) (head_stands s n, way_stands s c clocked tried) after.0)
      (contracts_stand s n f.trade.contracts h.contracts f.request.side (cover_of r) after.1, tt)

-- Every number that is told with a place stands at that place.
pub told_stand : (s : List ℕ) → Formed s → (n : Figures) → EachStands s (ruled_rows (steps_of (facts_of s)) n)
told_stand s h n = spelled_stand s (facts_of s) (facts_spelled s h.whole h.lists) n

-- So it is of every case that is accepted.
pub told_accepted : (s : List ℕ) → (reading_of s).refusal ≡ 0 → (n : Figures) → EachStands s (ruled_rows (steps_of (reading_of s).facts) n)
told_accepted s e n =
    subst (λ (r : Reading). EachStands s (ruled_rows (steps_of r.facts) n)) (sym (accepted_reading s e))
    (told_stand s (formed s (accepted_form s e)) n)

-- The head and the contracts that are told are those of the ruling.
pub ruling_told : (f : Facts) → ruled_rows (steps_of f) (figures_of (ruling_from (steps_of f))) ≡ ruled_rows (steps_of f) (figures_of (ruling_of f))
ruling_told f = ap (λ (r : Ruling). ruled_rows (steps_of f) (figures_of r)) (ruling_made f)
