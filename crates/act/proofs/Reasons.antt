-- A reason in an act has its outcome and its price.
use mathlib.Core.Path.{◌≡◌, refl}
use mathlib.Core.Bool.{Bool, true, false}
use Rattle.wire.specs.Tests.{in_range}
use Rattle.facts.specs.Numbers.{price_number}
use Rattle.parties.specs.Parties.{is_maker, by_side, any_customer}
use Rattle.act.specs.Words.{Mills, Side, Party, Band, Way, Obvious, Opening, Catastrophic, Act}
use Rattle.act.specs.Limits.{opening_stopped, catastrophic_stopped}
use Rattle.act.specs.Act.{obvious_act, opening_act, catastrophic_act, obvious_price, catastrophic_price, act_of}
use Rattle.act.specs.Numbers.{act_outcome, act_reason, act_price, fits, price_for}

-- an act in the page's numbers
abbrev pub Told : Side → Mills → Band → Act → Type 0
Told side tp band a = (fits (act_outcome a) (act_reason a) ≡ true) × (price_number (act_price a) ≡ price_for (act_reason a) side tp band)

module _ (side : Side) (tp : Mills) (band : Band) where
  obvious : (customer : Bool) → Told side tp band (obvious_act customer (obvious_price side tp))
  unfolding obvious_act in_range
  obvious true = (refl, refl)
  obvious false = (refl, refl)

  opening : (stopped maker : Bool) → Told side tp band (opening_act stopped maker tp)
  unfolding opening_act in_range
  opening true true = (refl, refl)
  opening true false = (refl, refl)
  opening false maker = (refl, refl)

  catastrophic : (stopped accepted : Bool) → Told side tp band (catastrophic_act stopped accepted (catastrophic_price side tp band))
  unfolding catastrophic_act in_range
  catastrophic true true = (refl, refl)
  catastrophic true false = (refl, refl)
  catastrophic false accepted = (refl, refl)

-- 4 and 5 no relief, 6 to 9 adjusted, 11 and 12 nullified, each with the price that it sets
pub act_told : (way : Way) (side : Side) (buyer seller : Party) (accepted : Bool) (tp : Mills) (band : Band)
    → Told side tp band (act_of way side buyer seller accepted tp band)
unfolding act_of
act_told Obvious side buyer seller accepted tp band = obvious side tp band (any_customer buyer.kind seller.kind)
act_told Opening side buyer seller accepted tp band =
    opening side tp band (opening_stopped side buyer seller tp) (is_maker (by_side side seller.kind buyer.kind))
act_told Catastrophic side buyer seller accepted tp band =
    catastrophic side tp band (catastrophic_stopped buyer seller (catastrophic_price side tp band)) accepted

-- the promise of `find_act` from its equation
pub with_numbers : (way : Way) (side : Side) (buyer seller : Party) (accepted : Bool) (tp : Mills) (band : Band) (a : Act)
    → a ≡ act_of way side buyer seller accepted tp band
    → (a ≡ act_of way side buyer seller accepted tp band) × (fits (act_outcome a) (act_reason a) ≡ true) × (price_number (act_price a) ≡ price_for (act_reason a) side tp band)
with_numbers way side buyer seller accepted tp band a e =
    let told = act_told way side buyer seller accepted tp band in (e, rw e told.0, rw e told.1)
