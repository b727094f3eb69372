-- Where the price that an act sets lies (RULE R12.2), by any row of a sound table. An act sets TP itself or TP
-- moved by an amount that is within the minimum of its way, and the error passed that minimum.
use Prim.Native.Nat.{ℕ, ◌≤◌}
use mathlib.Core.Path.{◌≡◌}
use mathlib.Core.Bool.{Bool, true, false}
use native.Mathlib.Omega.{arith}
use Rattle.bands.specs.Amounts.{obvious_adjustment_of, in_error, largest, moved_by}
use Rattle.bands.specs.Between.{Between}
use Rattle.bands.specs.Sound.{Sound}
use Rattle.bands.proofs.Error.{moved_between, moved_priced}
use Rattle.parties.specs.Parties.{is_maker, by_side, any_customer}
use Rattle.act.specs.Words.{Mills, Side, Party, Band, Way, Obvious, Opening, Catastrophic}
use Rattle.act.specs.Minimum.{minimum_of}
use Rattle.act.specs.Limits.{opening_stopped, catastrophic_stopped}
use Rattle.act.specs.Act.{obvious_act, opening_act, catastrophic_act, obvious_price, catastrophic_price, act_of}
use Rattle.act.specs.Numbers.{act_price, IfPriced}

obvious : (P : Mills → Type 0) (customer : Bool) (price : Mills) → P price → IfPriced P (act_price (obvious_act customer price))
unfolding obvious_act
obvious P true price p = tt
obvious P false price p = p

opening : (P : Mills → Type 0) (stopped maker : Bool) (tp : Mills) → P tp → IfPriced P (act_price (opening_act stopped maker tp))
unfolding opening_act
opening P true true tp p = tt
opening P true false tp p = tt
opening P false maker tp p = p

catastrophic : (P : Mills → Type 0) (stopped accepted : Bool) (price : Mills)
    → P price → IfPriced P (act_price (catastrophic_act stopped accepted price))
unfolding catastrophic_act
catastrophic P true true price p = p
catastrophic P true false price p = tt
catastrophic P false accepted price p = p

-- what holds of TP, and of TP moved by any amount within the minimum of the way, holds of the price that the act sets
each_price : {bands : Mills → Band} → Sound bands → (P : Mills → Type 0)
    → (way : Way) (side : Side) (buyer seller : Party) (accepted : Bool) (tp : Mills)
    → P tp → ((by : Mills) → by.0 ≤ (minimum_of way (bands tp)).0 → P (moved_by side tp by))
    → IfPriced P (act_price (act_of way side buyer seller accepted tp (bands tp)))
unfolding act_of
each_price sound P Obvious side buyer seller accepted tp here moved =
    obvious P (any_customer buyer.kind seller.kind) (obvious_price side tp)
    (moved (obvious_adjustment_of tp) (sound.obvious_adjustment_within tp))
each_price sound P Opening side buyer seller accepted tp here moved =
    opening P (opening_stopped side buyer seller tp) (is_maker (by_side side seller.kind buyer.kind)) tp here
each_price {bands} sound P Catastrophic side buyer seller accepted tp here moved =
    let price = catastrophic_price side tp (bands tp) in
    catastrophic P (catastrophic_stopped buyer seller price) accepted price (moved (bands tp).adjustment (sound.adjustment_within tp))

module _ {bands : Mills → Band} (sound : Sound bands) (way : Way) (side : Side) (buyer seller : Party) (accepted : Bool) (execution tp : Mills)
    (error : in_error side execution tp (minimum_of way (bands tp)) ≡ true) where
  -- it lies between TP and execution, ends included
  pub act_between : execution.0 ≤ largest
      → IfPriced (λ (p : Mills). Between tp p execution) (act_price (act_of way side buyer seller accepted tp (bands tp)))
  act_between l =
      each_price sound (λ (p : Mills). Between tp p execution) way side buyer seller accepted tp (omega arith)
      (λ by h. moved_between side execution tp (minimum_of way (bands tp)) by l h error)

  -- where TP and execution are prices, it is one
  pub act_priced : (top : ℕ) → tp.0 ≤ top → execution.0 ≤ top
      → IfPriced (λ (p : Mills). p.0 ≤ top) (act_price (act_of way side buyer seller accepted tp (bands tp)))
  act_priced top t x =
      each_price sound (λ (p : Mills). p.0 ≤ top) way side buyer seller accepted tp t
      (λ by h. moved_priced side execution tp (minimum_of way (bands tp)) by top h error t x)
