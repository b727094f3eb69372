-- An acceptance that no step asks for is ignored (RULE R2.10): it is asked for where a Customer's limit stops the catastrophic price, and
-- the ruling then has reason 9 or 12.
use mathlib.Core.Path.{◌≡◌, refl}
use mathlib.Core.Bool.{Bool, true, false}
use Rattle.wire.specs.Tests.{pick}
use Rattle.bands.specs.Table.{band_of}
use Rattle.bands.specs.Amounts.{in_error}
use Rattle.parties.specs.Parties.{by_side}
use Rattle.way.specs.Way.{way_of}
use Rattle.theory.specs.Theory.{theory_of}
use Rattle.agreement.specs.Agreed.{heeded_of, accepted_in_time}
use Rattle.act.specs.Minimum.{minimum_of}
use Rattle.act.specs.Limits.{catastrophic_stopped}
use Rattle.act.specs.Act.{catastrophic_price, catastrophic_act, act_of}
use Rattle.alike.specs.Words.{Mills, Moment, Facts, Trade, Way, Obvious, Opening, Catastrophic, Open, Some, None, Source, Theory, Heeded, Ignored, Repriced, Undone, Ruling}
use Rattle.ruling.specs.Ruling.{no_relief, carried_out, settled, ruled_at, ruled_from, ruled_on, ruled_by, ruled_if, ruling_of}
use Rattle.alike.specs.Accepted.{accepted_at, NotAsked}
use Rattle.ruling.proofs.Walk.{heeded_at}

-- ---- the act
by_stop : (t : Trade) (s : Source) (price : Mills) (stopped a b : Bool) → NotAsked (carried_out t Catastrophic s (catastrophic_act stopped a price))
    → carried_out t Catastrophic s (catastrophic_act stopped b price) ≡ carried_out t Catastrophic s (catastrophic_act stopped a price)
unfolding catastrophic_act
by_stop t s price true true b h = absurd (h.0 refl)
by_stop t s price true false b h = absurd (h.1 refl)
by_stop t s price false a b h = refl

-- ---- a test that both rulings share, which an acceptance does not touch
where-true : (x y z : Ruling) → (NotAsked y → x ≡ y) → (b : Bool) → NotAsked (pick b y z) → pick b x z ≡ pick b y z
where-true x y z same true h = same h
where-true x y z same false h = refl

where-false : (x y z : Ruling) → (NotAsked y → x ≡ y) → (b : Bool) → NotAsked (pick b z y) → pick b z x ≡ pick b z y
where-false x y z same true h = refl
where-false x y z same false h = same h

-- ---- step by step
module _ (f : Facts) (m : Moment) where
  abbrev g : Facts
  g = accepted_at f m

  same_settled : (way : Way) (s : Source) (h : Heeded) → NotAsked (settled f way s h) → settled g way s h ≡ settled f way s h
  unfolding act_of
  same_settled way s (Repriced price) k = refl
  same_settled way s Undone k = refl
  same_settled Obvious s Ignored k = refl
  same_settled Opening s Ignored k = refl
  same_settled Catastrophic s Ignored k =
      let price = catastrophic_price f.request.side s.price (band_of s.price) in
      by_stop f.trade s price (catastrophic_stopped f.buyer f.seller price) (accepted_in_time f.settlement.accepted) (accepted_in_time m) k

  same_from : (way : Way) (t : Theory) → NotAsked (ruled_from f way t) → ruled_from g way t ≡ ruled_from f way t
  unfolding ruled_at heeded_of
  same_from way (Some s) k =
      where-true (settled g way s (heeded_at f way)) (settled f way s (heeded_at f way)) (no_relief f.trade 1 (Some s)) (same_settled way s (heeded_at f way))
      (in_error f.request.side f.trade.price s.price (minimum_of way (band_of s.price))) k
  same_from way None k = refl

  same_on : (way : Way) → NotAsked (ruled_on f way) → ruled_on g way ≡ ruled_on f way
  unfolding ruled_on
  same_on way k = same_from way (theory_of f.form f.request.side f.market) k

  same_by : (way : Way) → NotAsked (ruled_by f way) → ruled_by g way ≡ ruled_by f way
  unfolding ruled_by
  same_by Obvious k = same_on Obvious k
  same_by Opening k = same_on Opening k
  same_by Catastrophic k = where-false (ruled_on g Catastrophic) (ruled_on f Catastrophic) _ (same_on Catastrophic) f.request.decided k

  same_if : (o : Open) → NotAsked (ruled_if f o) → ruled_if g o ≡ ruled_if f o
  same_if (Some way) k = same_by way k
  same_if None k = refl

  pub acceptance_ignored : NotAsked (ruling_of f) → ruling_of g ≡ ruling_of f
  unfolding ruling_of
  acceptance_ignored k = same_if (way_of f.trade.executed f.request (by_side f.request.side f.buyer.kind f.seller.kind)) k
