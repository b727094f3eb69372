use mathlib.Core.Path.{◌≡◌}
use mathlib.Core.Bool.{Bool, true, false}
use Rattle.parties.specs.Parties.{is_maker, by_side}
use Rattle.act.specs.Words.{Side, Kind}
use Rattle.act.specs.Limits.{other_side, opening_tested}
use Rattle.act.proofs.opening_tested.Goals as goal

module _ (side : Side) (buyer seller : Kind) {other : Kind} {maker : Bool} (kind : other ≡ by_side side seller buyer) (made : maker ≡ is_maker other) where
  against_a_maker : maker ≡ true → side ≡ opening_tested side buyer seller
  unfolding opening_tested
  against_a_maker held = let m : is_maker (by_side side seller buyer) ≡ true = cc in simp m

  against_another : {opposite : Side} → opposite ≡ other_side side → maker ≡ false → opposite ≡ opening_tested side buyer seller
  unfolding opening_tested
  against_another opposite failed = let m : is_maker (by_side side seller buyer) ≡ false = cc in simp m opposite

pub returns-then-is_maker : goal.returns-then-is_maker
returns-then-is_maker c = let a = c.args in against_a_maker a.side a.buyer a.seller c.by_side.ensures c.is_maker.ensures c.if-is_maker.true

pub returns : goal.returns
returns c = let a = c.args in against_another a.side a.buyer a.seller c.by_side.ensures c.is_maker.ensures
    c.other_side.ensures c.if-is_maker.false
