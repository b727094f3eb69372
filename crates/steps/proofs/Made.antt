-- The ruling is made from the steps: the explanation can't tell another story.
use Prim.Native.Nat.{ℕ}
use mathlib.Core.Path.{◌≡◌, refl, ap, ◌∙◌}
use mathlib.Core.Bool.{Bool, true, false, not, ◌&&◌, ◌||◌}
use lib.Dec.{eqb}
use Rattle.wire.specs.Tests.{pick}
use Rattle.parties.specs.Parties.{by_side, is_customer}
use Rattle.bands.specs.Table.{band_of}
use Rattle.bands.specs.Amounts.{in_error}
use Rattle.way.specs.Times.{is_trade_date, is_next_day, no_later, within}
use Rattle.way.specs.Way.{obvious_time, opening_after, opening_by, expiry_by, next_day_by, obvious_open, opening_open, catastrophic_open, first_open, way_of}
use Rattle.theory.specs.Theory.{theory_of}
use Rattle.agreement.specs.Agreed.{accepted_in_time}
use Rattle.act.specs.Minimum.{minimum_of}
use Rattle.act.specs.Limits.{opening_tested, opening_stopped, catastrophic_stopped}
use Rattle.act.specs.Act.{act_of}
use Rattle.ruling.specs.Ruling.{carried_out, settled, ruled_at, ruled_from, ruled_on, ruled_by, ruled_if, ruling_of, no_relief}
use Rattle.steps.specs.Words.{Mills, Side, Buy, Sell, Party, Moment, Band, Seconds, Request, Kind, Facts, Way, Obvious, Opening, Catastrophic, Open, Some, None, Source, Theory, Heeded, Ignored, Repriced, Undone, Shut, AllShut, First, Second, Third, NoWay, AfterError, Decided, Priced, Trade, Act, Adjust, Nullify, Leave, End, PriceCounts, NullifyCounts, Acted, Judged, Steps}
use Rattle.steps.specs.Tried.{obvious_why, opening_why, catastrophic_why, tried_from, tried_of, open_of}
use Rattle.steps.specs.Found.{error_of, limit_of, obvious_step, opening_step, catastrophic_step, act_step_of}
use Rattle.steps.specs.Steps.{end_of, settled_of, judged_of, reached_from, reached_on, reached_by, reached_if, steps_of}
use Rattle.steps.specs.Ruling.{act_from, end_ruling, after_ruling, reached_ruling, ruling_from}

-- ---- a way is open where none of its tests failed
two_tests : (a b : Bool) → eqb (pick a (pick b 0 2) 1) 0 ≡ (a && b)
two_tests true true = refl
two_tests true false = refl
two_tests false b = refl

five_tests : (a b c d e : Bool) → eqb (pick a (pick b (pick c (pick d (pick e 0 6) 5) 4) 3) 1) 0 ≡ (a && b && c && d && e)
five_tests true true true true true = refl
five_tests true true true true false = refl
five_tests true true true false e = refl
five_tests true true false d e = refl
five_tests true false c d e = refl
five_tests false b c d e = refl

under_expiry : (x a b n h : Bool)
    → eqb (pick x (pick a (pick b 0 7) 1) (pick (a || n) (pick (a || h) 0 9) 8)) 0 ≡ pick x (a && b) (a || n && h)
under_expiry true true true n h = refl
under_expiry true true false n h = refl
under_expiry true false b n h = refl
under_expiry false true b n h = refl
under_expiry false false b true true = refl
under_expiry false false b true false = refl
under_expiry false false b false h = refl

first_tried : (a b c : Bool) (o : ℕ) (w : Shut) (h : AllShut) → open_of (pick a First (pick b (Second o) (pick c (Third w) (NoWay h)))) ≡ first_open a b c
first_tried true b c o w h = refl
first_tried false true c o w h = refl
first_tried false false true o w h = refl
first_tried false false false o w h = refl

obvious_tests : (executed : Seconds) (q : Request) (kind : Kind)
    → eqb (obvious_why q.day executed q.filed kind) 0 ≡ obvious_open q.day executed q.filed kind
unfolding obvious_why obvious_open
obvious_tests executed q kind = two_tests (is_trade_date q.day) (within (obvious_time kind) executed q.filed)

opening_tests : (executed : Seconds) (q : Request) (kind : Kind)
    → eqb (opening_why q.day q.opening executed q.filed kind) 0 ≡ opening_open q.day q.opening executed q.filed kind
unfolding opening_why opening_open
opening_tests executed q kind =
    five_tests (is_trade_date q.day) q.opening (is_customer kind) (not (within opening_after executed q.filed)) (no_later q.filed opening_by)

catastrophic_tests : (q : Request) → eqb (catastrophic_why q.day q.expiry q.filed) 0 ≡ catastrophic_open q.day q.expiry q.filed
unfolding catastrophic_why catastrophic_open
catastrophic_tests q =
    under_expiry q.expiry (is_trade_date q.day) (no_later q.filed expiry_by) (is_next_day q.day) (no_later q.filed next_day_by)

pub way_tried : (executed : Seconds) (q : Request) (kind : Kind) → open_of (tried_of executed q kind) ≡ way_of executed q kind
unfolding tried_of tried_from way_of
way_tried executed q kind =
    first_tried
    (eqb (obvious_why q.day executed q.filed kind) 0)
    (eqb (opening_why q.day q.opening executed q.filed kind) 0)
    (eqb (catastrophic_why q.day q.expiry q.filed) 0)
    _ _ _
    ∙ rw (obvious_tests executed q kind, opening_tests executed q kind, catastrophic_tests q)

-- ---- the act
limit_on : (s : Side) (b p : Party) → (by_side s b p).limit ≡ by_side s b.limit p.limit
limit_on Buy b p = refl
limit_on Sell b p = refl

act_made : (way : Way) (side : Side) (buyer seller : Party) (m : Moment) (tp : Mills) (band : Band)
    → act_from tp (act_step_of way side buyer seller m tp band) ≡ act_of way side buyer seller (accepted_in_time m) tp band
unfolding act_of obvious_step opening_step catastrophic_step limit_of opening_stopped catastrophic_stopped
act_made Obvious side buyer seller m tp band = refl
act_made Opening side buyer seller m tp band = rw (limit_on (opening_tested side buyer.kind seller.kind) buyer seller)
act_made Catastrophic side buyer seller m tp band = refl

-- ---- agreement, the error, TP, the way
module _ (f : Facts) where
  end_made : (way : Way) (s : Source) (h : Heeded) → end_ruling f.trade way s (end_of f way s h) ≡ settled f way s h
  end_made way s (Repriced p) = refl
  end_made way s Undone = refl
  end_made way s Ignored = ap (carried_out f.trade way s) (act_made way _ _ _ _ _ _)

  after_made : (b : Bool) (way : Way) (s : Source) (x y : AfterError)
      → after_ruling f.trade way s (pick b x y) ≡ pick b (after_ruling f.trade way s x) (after_ruling f.trade way s y)
  after_made true way s x y = refl
  after_made false way s x y = refl

  from_made : (way : Way) (t : Theory) → reached_ruling f.trade (reached_from f way t) ≡ ruled_from f way t
  unfolding judged_of ruled_at error_of settled_of
  from_made way (Some s) =
      after_made (in_error f.request.side f.trade.price s.price (minimum_of way (band_of s.price))) way s _ _
      ∙ rw (end_made way s)
  from_made way None = refl

  on_made : (way : Way) → reached_ruling f.trade (reached_on f way) ≡ ruled_on f way
  unfolding reached_on ruled_on
  on_made way = from_made way (theory_of f.form f.request.side f.market)

  decided_made : (b : Bool)
      → reached_ruling f.trade (pick b Decided (reached_on f Catastrophic)) ≡ pick b (no_relief f.trade 3 None) (ruled_on f Catastrophic)
  decided_made true = refl
  decided_made false = on_made Catastrophic

  if_made : (o : Open) → reached_ruling f.trade (reached_if f o) ≡ ruled_if f o
  unfolding reached_by ruled_by
  if_made (Some Obvious) = on_made Obvious
  if_made (Some Opening) = on_made Opening
  if_made (Some Catastrophic) = decided_made f.request.decided
  if_made None = refl

  pub ruling_made : ruling_from (steps_of f) ≡ ruling_of f
  unfolding ruling_from steps_of ruling_of
  ruling_made =
      let kind = by_side f.request.side f.buyer.kind f.seller.kind in
      if_made (open_of (tried_of f.trade.executed f.request kind)) ∙ ap (ruled_if f) (way_tried f.trade.executed f.request kind)

-- ---- TP: where the steps came to one, it is the ruling's
carried_tp : (t : Trade) (way : Way) (s : Source) (a : Act) → (carried_out t way s a).tp ≡ Some s
carried_tp t way s (Adjust c) = refl
carried_tp t way s (Nullify reason) = refl
carried_tp t way s (Leave reason) = refl

end_tp : (t : Trade) (way : Way) (s : Source) (e : End) → (end_ruling t way s e).tp ≡ Some s
end_tp t way s (PriceCounts price) = refl
end_tp t way s NullifyCounts = refl
end_tp t way s (Acted a) = carried_tp t way s (act_from s.price a)

after_tp : (t : Trade) (way : Way) (s : Source) (a : AfterError) → (after_ruling t way s a).tp ≡ Some s
after_tp t way s None = refl
after_tp t way s (Some g) = end_tp t way s g.end

pub tp_told : (s : Steps) (j : Judged) → s.reached ≡ Priced j → (ruling_from s).tp ≡ Some j.source
unfolding ruling_from
tp_told s j e = rw e (after_tp s.trade j.way j.source j.after)
