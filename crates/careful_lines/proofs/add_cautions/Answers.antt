use Prim.Native.Nat.{◌≤◌}
use mathlib.Core.Path.{refl}
use native.Mathlib.Omega.{arith}
use lib.ListN.{length}
use Rattle.words.proofs.Runs.{no_rows, rows_more}
use Rattle.careful_lines.specs.Lines.{careful_rows, caution_rows}
use Rattle.words.specs.Names.{careful_bid_words, careful_offer_words, careful_official_words, careful_buyer_words, careful_seller_words}
use Rattle.careful_lines.proofs.add_cautions.Goals as goal

pub returns : goal.returns
unfolding careful_rows
returns c = let a = c.args in let room : a.at ≤ length a.out.now = omega (arith, c.requires) in
    let r0 = no_rows a.at a.out.now room in
    let r1 = rows_more a.at _ _ _ _ _ (caution_rows careful_bid_words a.cautions.bid) _ _ _ room r0 refl c.add_caution-after_bid.ensures in
    let r2 = rows_more a.at _ _ _ _ _ (caution_rows careful_offer_words a.cautions.offer) _ _ _ room r1 refl c.add_caution-after_offer.ensures in
    let r3 = rows_more a.at _ _ _ _ _ (caution_rows careful_official_words a.cautions.official) _ _ _ room r2 refl c.add_caution-after_official.ensures in
    let r4 = rows_more a.at _ _ _ _ _ (caution_rows careful_buyer_words a.cautions.buyer) _ _ _ room r3 refl c.add_caution-after_buyer.ensures in
    let r5 = rows_more a.at _ _ _ _ _ (caution_rows careful_seller_words a.cautions.seller) _ _ _ room r4 refl c.add_caution.ensures in
    (r5.0, r5.1, omega (arith, c.add_caution-after_bid.ensures.2, c.add_caution-after_offer.ensures.2, c.add_caution-after_official.ensures.2, c.add_caution-after_buyer.ensures.2, c.add_caution.ensures.2))
