-- What holds of the way whatever the clock shows.
use mathlib.Core.Path.{◌≡◌, refl}
use mathlib.Core.Bool.{Bool, true, false, ◌&&◌}
use Rattle.wire.specs.Tests.{pick}
use Rattle.way.specs.Words.{Seconds, Request, Kind, Customer, MarketMaker, Other, Day, TradeDate, NextDay, Later, Way, Obvious, Opening, Catastrophic, Some, None}
use Rattle.parties.specs.Parties.{is_customer}
use Rattle.way.specs.Times.{is_trade_date}
use Rattle.way.specs.Way.{obvious_open, opening_open, catastrophic_open, first_open, way_of}

-- ---- the opening way is for an opening trade with a Customer in error, on day 0
opening_taken : (o e c : Bool) → first_open o e c ≡ Some Opening → e ≡ true
opening_taken true e c h = cc
opening_taken false true c h = refl
opening_taken false false true h = cc
opening_taken false false false h = cc

grounds : (d : Day) (o : Bool) (k : Kind) (a b : Bool) → (is_trade_date d && o && is_customer k && a && b) ≡ true
    → (d ≡ TradeDate) × (o ≡ true) × (k ≡ Customer)
grounds TradeDate true Customer a b h = (refl, refl, refl)
grounds TradeDate true MarketMaker a b h = (refl, refl, cc)
grounds TradeDate true Other a b h = (refl, refl, cc)
grounds TradeDate false k a b h = (refl, cc, cc)
grounds NextDay o k a b h = (cc, cc, cc)
grounds Later o k a b h = (cc, cc, cc)

-- ---- no way is open on a later day
never : (expiry : Bool) → first_open false false (pick expiry false false) ≡ None
never true = refl
never false = refl

-- ---- on day 0 the catastrophic way is open, at the latest, where no expiry deadline holds
open_by : (o e : Bool) → (w : Way) × (first_open o e true ≡ Some w)
open_by true e = (Obvious, refl)
open_by false true = (Opening, refl)
open_by false false = (Catastrophic, refl)

all_day : {day : Day} {expiry : Bool} (filed : Seconds) → day ≡ TradeDate → expiry ≡ false → catastrophic_open day expiry filed ≡ true
unfolding catastrophic_open
all_day filed d x = simp (x, d)

module _ (executed : Seconds) (q : Request) (kind : Kind) where
  abbrev obvious : Bool
  obvious = obvious_open q.day executed q.filed kind

  abbrev opening : Bool
  opening = opening_open q.day q.opening executed q.filed kind

  pub opening_way : way_of executed q kind ≡ Some Opening → (q.day ≡ TradeDate) × (q.opening ≡ true) × (kind ≡ Customer)
  unfolding way_of opening_open
  opening_way h =
      grounds q.day q.opening kind _ _ (opening_taken obvious opening (catastrophic_open q.day q.expiry q.filed) h)

  pub later_closed : q.day ≡ Later → way_of executed q kind ≡ None
  unfolding way_of obvious_open opening_open catastrophic_open
  later_closed d = simp d (never q.expiry)

  pub trade_date_open : q.day ≡ TradeDate → q.expiry ≡ false → (w : Way) × (way_of executed q kind ≡ Some w)
  unfolding way_of
  trade_date_open d x = simp (all_day q.filed d x) (open_by obvious opening)
