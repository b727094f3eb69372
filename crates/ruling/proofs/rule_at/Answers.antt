use Prim.Native.Nat.{ℕ}
use mathlib.Core.Path.{◌≡◌, ap, ◌∙◌}
use mathlib.Core.Bool.{Bool, true, false}
use mathlib.Core.List.{List}
use Rattle.bands.specs.Table.{band_of}
use Rattle.bands.specs.Amounts.{in_error}
use Rattle.parties.specs.Parties.{any_customer}
use Rattle.record.specs.Record.{trade_of, request_of, party_at, settlement_of, facts_of}
use Rattle.agreement.specs.Agreed.{heeded_of}
use Rattle.act.specs.Minimum.{minimum_of}
use Rattle.ruling.specs.Words.{Mills, Kind, Band, Trade, Request, Settlement, Way, Source, Some, Heeded, Ruling}
use Rattle.ruling.specs.Ruling.{no_relief, settled, ruled_at}
use Rattle.ruling.proofs.rule_at.Goals as goal

-- What is read for the error, and for agreement, is the record's own.
-- what was read from the record and tested
module _ (s : List ℕ) (way : Way) (source : Source) {trade : Trade} {request : Request} {band : Band} {minimum : Mills} {wrong : Bool}
    (traded : trade ≡ trade_of s) (requested : request ≡ request_of s) (row : band ≡ band_of source.price) (least : minimum ≡ minimum_of way band)
    (tested : wrong ≡ in_error request.side trade.price source.price minimum) where
  in_error_lem : (b : Bool) → wrong ≡ b → in_error (request_of s).side (trade_of s).price source.price (minimum_of way (band_of source.price)) ≡ b
  in_error_lem b h = cc

  off : {buyer seller : Kind} {customer : Bool} {settlement : Settlement} {heeded : Heeded} {r : Ruling}
      → wrong ≡ true
      → buyer ≡ (party_at s 48 64).kind
      → seller ≡ (party_at s 56 65).kind
      → customer ≡ any_customer buyer seller
      → settlement ≡ settlement_of s
      → heeded ≡ heeded_of settlement way customer
      → r ≡ settled (facts_of s) way source heeded
      → r ≡ ruled_at (facts_of s) way source
  unfolding facts_of ruled_at
  off {heeded = heeded} h buyer seller customer settlement e ruled =
      let f : heeded ≡ heeded_of (settlement_of s) way (any_customer (party_at s 48 64).kind (party_at s 56 65).kind) = cc in
      simp (in_error_lem true h) (ruled ∙ ap (settled (facts_of s) way source) f)

  not_off : {r : Ruling} → wrong ≡ false → r ≡ no_relief trade 1 (Some source) → r ≡ ruled_at (facts_of s) way source
  unfolding facts_of ruled_at
  not_off h e = simp (in_error_lem false h) (e ∙ ap (λ (t : Trade). no_relief t 1 (Some source)) traded)

pub returns-then-in_error : goal.returns-then-in_error
returns-then-in_error c = off _ _ _
    c.trade_of-trade.ensures c.request_of-side.ensures c.band_of.ensures c.minimum_of-minimum.ensures c.in_error.ensures
    c.if-in_error.true c.buyer_kind.ensures c.seller_kind.ensures c.any_customer-customer.ensures
    c.settlement_of.ensures c.heed-heeded.ensures.0 c.settle.ensures

pub returns : goal.returns
returns c = not_off _ _ _
    c.trade_of-trade.ensures c.request_of-side.ensures c.band_of.ensures c.minimum_of-minimum.ensures c.in_error.ensures
    c.if-in_error.false c.no_relief.ensures
