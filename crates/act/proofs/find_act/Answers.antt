use mathlib.Core.Path.{◌≡◌}
use mathlib.Core.Bool.{Bool}
use Rattle.bands.specs.Amounts.{obvious_adjustment_of, moved_by}
use Rattle.parties.specs.Parties.{is_maker, by_side, any_customer}
use Rattle.act.specs.Words.{Mills, Side, Kind, Party, Band, Way, Obvious, Opening, Catastrophic, Act}
use Rattle.act.specs.Limits.{opening_stopped, catastrophic_stopped}
use Rattle.act.specs.Act.{obvious_act, opening_act, catastrophic_act, catastrophic_price, act_of}
use Rattle.act.proofs.Reasons.{with_numbers}
use Rattle.act.proofs.find_act.Goals as goal

-- What the calls on each way gave is the act. Stated apart from the calls, where congruence closure has little to read.
module _ (way : Way) (side : Side) (buyer seller : Party) (accepted : Bool) (tp : Mills) (band : Band) where
  on_obvious : {by near : Mills} {customer : Bool} {a : Act}
      → way ≡ Obvious
      → by ≡ obvious_adjustment_of tp
      → near ≡ moved_by side tp by
      → customer ≡ any_customer buyer.kind seller.kind
      → a ≡ obvious_act customer near
      → a ≡ act_of way side buyer seller accepted tp band
  unfolding act_of
  on_obvious w moves near customer act = simp w cc

  on_opening : {other : Kind} {maker stopped : Bool} {a : Act}
      → way ≡ Opening
      → other ≡ by_side side seller.kind buyer.kind
      → maker ≡ is_maker other
      → stopped ≡ opening_stopped side buyer seller tp
      → a ≡ opening_act stopped maker tp
      → a ≡ act_of way side buyer seller accepted tp band
  unfolding act_of
  on_opening w other maker stopped act = simp w cc

  on_catastrophic : {far : Mills} {stopped : Bool} {a : Act}
      → way ≡ Catastrophic
      → far ≡ catastrophic_price side tp band
      → stopped ≡ catastrophic_stopped buyer seller far
      → a ≡ catastrophic_act stopped accepted far
      → a ≡ act_of way side buyer seller accepted tp band
  unfolding act_of
  on_catastrophic w far stopped act = simp w cc

pub returns-in-Obvious : goal.returns-in-Obvious
returns-in-Obvious c = let a = c.args in with_numbers a.way a.side a.buyer a.seller a.accepted a.tp a.band _
    (on_obvious a.way a.side a.buyer a.seller a.accepted a.tp a.band
    c.in-Obvious.is c.obvious_adjustment.ensures c.moved-near.ensures
    c.any_customer.ensures c.obvious_act.ensures)

pub returns-in-Opening : goal.returns-in-Opening
returns-in-Opening c = let a = c.args in with_numbers a.way a.side a.buyer a.seller a.accepted a.tp a.band _
    (on_opening a.way a.side a.buyer a.seller a.accepted a.tp a.band
    c.in-Opening.is c.by_side.ensures c.is_maker-maker.ensures
    c.opening_stopped.ensures c.opening_act.ensures)

pub returns-in-Catastrophic : goal.returns-in-Catastrophic
returns-in-Catastrophic c = let a = c.args in with_numbers a.way a.side a.buyer a.seller a.accepted a.tp a.band _
    (on_catastrophic a.way a.side a.buyer a.seller a.accepted a.tp a.band
    c.in-Catastrophic.is c.moved-far.ensures
    c.catastrophic_stopped.ensures c.catastrophic_act.ensures)
