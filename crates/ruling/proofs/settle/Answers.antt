use Prim.Native.Nat.{ℕ}
use mathlib.Core.Path.{◌≡◌}
use mathlib.Core.Bool.{Bool}
use mathlib.Core.List.{List}
use Rattle.bands.specs.Table.{band_of}
use Rattle.record.specs.Record.{trade_of, request_of, party_at, settlement_of, facts_of}
use Rattle.agreement.specs.Agreed.{accepted_in_time}
use Rattle.act.specs.Act.{act_of}
use Rattle.ruling.specs.Words.{Band, Party, Trade, Request, Settlement, Way, Source, Ignored, Repriced, Act, Ruling}
use Rattle.ruling.specs.Ruling.{carried_out, settled}
use Rattle.ruling.proofs.settle.Goals as goal

-- Each group of facts that is read is the record's own, so the act is the one on the record's facts.
acted : (s : List ℕ) (way : Way) (source : Source) {request : Request} {settlement : Settlement} {told : Bool} {buyer seller : Party} {band : Band} {act : Act} {trade : Trade} {r : Ruling}
    → request ≡ request_of s
    → settlement ≡ settlement_of s
    → told ≡ accepted_in_time settlement.accepted
    → buyer ≡ party_at s 48 64
    → seller ≡ party_at s 56 65
    → band ≡ band_of source.price
    → act ≡ act_of way request.side buyer seller told source.price band
    → trade ≡ trade_of s
    → r ≡ carried_out trade way source act
    → r ≡ settled (facts_of s) way source Ignored
unfolding facts_of
acted s way source request settlement told buyer seller band act trade r = cc

pub returns-in-Ignored : goal.returns-in-Ignored
returns-in-Ignored c = let e : c.args.heeded ≡ Ignored = c.in-Ignored.is in
    simp e
    (acted _ _ _
    c.request_of-side.ensures
    c.settlement_of.ensures
    c.accepted_in_time-told.ensures
    c.buyer_of-buyer.ensures
    c.seller_of-seller.ensures
    c.band_of.ensures
    c.find_act-act.ensures.0
    c.trade_of.ensures
    c.carry_out.ensures)

pub returns-in-Repriced : goal.returns-in-Repriced
unfolding facts_of
returns-in-Repriced c = let e : c.args.heeded ≡ Repriced _ = c.in-Repriced.is in
    simp (e, ← c.trade_of-in-Repriced.ensures) c.adjust.ensures

pub returns-in-Undone : goal.returns-in-Undone
unfolding facts_of
returns-in-Undone c = simp (c.in-Undone.is, ← c.trade_of-in-Undone.ensures) c.nullify.ensures
