use mathlib.Core.Path.{◌≡◌, ap₂}
use mathlib.Core.Bool.{Bool, true, false, ◌&&◌, ◌||◌}
use Rattle.facts.specs.Numbers.{seconds}
use Rattle.way.specs.Words.{Day, Seconds}
use Rattle.way.specs.Times.{is_trade_date, is_next_day, no_later}
use Rattle.way.specs.Way.{catastrophic_open}
use Rattle.way.proofs.catastrophic_open.Goals as goal

module _ (day : Day) (filed : Seconds) {expiry dated timely : Bool} where
  with_expiry : expiry ≡ true → dated ≡ is_trade_date day → timely ≡ no_later filed (seconds 61200)
      → (dated && timely) ≡ catastrophic_open day expiry filed
  unfolding catastrophic_open
  with_expiry x d t = simp x (ap₂ ◌&&◌ d t)

  without_expiry : {next : Bool} → expiry ≡ false → dated ≡ is_trade_date day → next ≡ is_next_day day → timely ≡ no_later filed (seconds 30600)
      → (dated || next && timely) ≡ catastrophic_open day expiry filed
  unfolding catastrophic_open
  without_expiry x d n t = simp x (ap₂ ◌||◌ d (ap₂ ◌&&◌ n t))

pub returns-then-expiry : goal.returns-then-expiry
returns-then-expiry c = let a = c.args in with_expiry a.day a.filed c.if-expiry.true c.is_trade_date.ensures c.no_later.ensures

pub returns : goal.returns
returns c = let a = c.args in without_expiry a.day a.filed c.if-expiry.false
    c.is_trade_date-2.ensures c.is_next_day.ensures c.no_later-2.ensures
