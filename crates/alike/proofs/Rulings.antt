-- Demand 3 on rulings: of one party's code and limit a ruling reads only whether the price that is tested violates the limit.
use Prim.Native.Nat.{ℕ}
use mathlib.Core.Path.{◌≡◌, refl, ap}
use mathlib.Core.Bool.{Bool, true, false}
use mathlib.Core.List.{List}
use Rattle.wire.specs.Tests.{pick}
use Rattle.bands.specs.Table.{band_of}
use Rattle.bands.specs.Amounts.{in_error}
use Rattle.parties.specs.Parties.{by_side}
use Rattle.way.specs.Way.{way_of}
use Rattle.theory.specs.Theory.{theory_of}
use Rattle.agreement.specs.Agreed.{accepted_in_time}
use Rattle.act.specs.Minimum.{minimum_of}
use Rattle.act.specs.Tested.{Alike}
use Rattle.act.proofs.Blind.{act_blind}
use Rattle.alike.specs.Words.{Price, None, Side, Facts, Way, Obvious, Opening, Catastrophic, Open, Some, Source, Theory, Heeded, Ignored, Repriced, Undone, Ruling}
use Rattle.ruling.specs.Ruling.{no_relief, carried_out, settled, ruled_at, ruled_from, ruled_on, ruled_by, ruled_if, ruling_of}
use Rattle.alike.specs.Tested.{tested_under, tested_from, tested_on, tested_by, tested_if, tested_in, altered_facts}
use Rattle.ruling.proofs.Walk.{heeded_at}

-- ---- a test that both rulings share, with what is tested on one side of it
module _ (who : Side) (old new : Price) (t : Price) (x y z : Ruling) (same : Alike who t old new → x ≡ y) where
  where-true : (b : Bool) → Alike who (pick b t None) old new → pick b x z ≡ pick b y z
  where-true true h = same h
  where-true false h = refl

  where-false : (b : Bool) → Alike who (pick b None t) old new → pick b z x ≡ pick b z y
  where-false true h = refl
  where-false false h = same h

-- ---- step by step: no step before the act reads a code or a limit
module _ (f : Facts) (who : Side) (code : List ℕ) (limit : Price) where
  abbrev g : Facts
  g = altered_facts f who code limit

  abbrev old : Price
  old = by_side who f.buyer.limit f.seller.limit

  abbrev Same : Price → Type 0
  Same tested = Alike who tested old limit

  same_settled : (way : Way) (s : Source) (h : Heeded) → Same (tested_under f way s who h) → settled g way s h ≡ settled f way s h
  same_settled way s (Repriced price) k = refl
  same_settled way s Undone k = refl
  same_settled way s Ignored k =
      ap (carried_out f.trade way s)
      (act_blind way f.request.side f.buyer f.seller (accepted_in_time f.settlement.accepted) s.price (band_of s.price) who code limit k)

  same_from : (way : Way) (t : Theory) → Same (tested_from f way who t) → ruled_from g way t ≡ ruled_from f way t
  unfolding ruled_at
  same_from way (Some s) k =
      where-true who old limit (tested_under f way s who (heeded_at f way)) (settled g way s (heeded_at f way)) (settled f way s (heeded_at f way))
      (no_relief f.trade 1 (Some s)) (same_settled way s (heeded_at f way))
      (in_error f.request.side f.trade.price s.price (minimum_of way (band_of s.price))) k
  same_from way None k = refl

  same_on : (way : Way) → Same (tested_on f who way) → ruled_on g way ≡ ruled_on f way
  unfolding ruled_on
  same_on way k = same_from way (theory_of f.form f.request.side f.market) k

  same_by : (way : Way) → Same (tested_by f who way) → ruled_by g way ≡ ruled_by f way
  unfolding ruled_by
  same_by Obvious k = same_on Obvious k
  same_by Opening k = same_on Opening k
  same_by Catastrophic k =
      where-false who old limit (tested_on f who Catastrophic) (ruled_on g Catastrophic) (ruled_on f Catastrophic) (no_relief f.trade 3 None)
      (same_on Catastrophic) f.request.decided k

  same_if : (o : Open) → Same (tested_if f who o) → ruled_if g o ≡ ruled_if f o
  same_if (Some way) k = same_by way k
  same_if None k = refl

  -- The party on side `who` may have any other code, and any other limit that the tested price, if there is one, violates or not
  -- just as it did the old one: the ruling is the same.
  pub same_ruling : Same (tested_in f who) → ruling_of g ≡ ruling_of f
  unfolding ruling_of tested_in
  same_ruling k = same_if (way_of f.trade.executed f.request (by_side f.request.side f.buyer.kind f.seller.kind)) k
