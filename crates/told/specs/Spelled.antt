-- These bytes spell these facts (RULE R2.6): at each place that an explanation names stands the number of what the facts have there.
use Rattle.std.specs.Prelude.{ℕ, ◌≡◌, List}
use Rattle.facts.specs.Numbers.{price_number, moment_number}
use Rattle.codes.specs.Codes.{kind_number, day_number, flag_number, agreement_number}
use Rattle.forms.specs.Forms.{differential_of}
use Rattle.told.specs.Words.{Mills, Some, Facts}
use Rattle.told.specs.Stands.{InBytes}

pub record Spelled (s : List ℕ) (f : Facts) : Type 0 where
  pub price : InBytes 4 s 8 f.trade.price.0
  pub contracts : InBytes 4 s 12 f.trade.contracts.0
  pub executed : InBytes 4 s 16 f.trade.executed.0
  pub bid : InBytes 4 s 20 (price_number f.market.bid.price)
  pub offer : InBytes 4 s 24 (price_number f.market.offer.price)
  pub bids : InBytes 4 s 28 f.market.bid.size.0
  pub offers : InBytes 4 s 32 f.market.offer.size.0
  pub official : InBytes 4 s 40 (price_number f.market.official)
  pub opening : InBytes 1 s 45 (flag_number f.request.opening)
  pub expiry : InBytes 1 s 46 (flag_number f.request.expiry)
  pub decided : InBytes 1 s 47 (flag_number f.request.decided)
  pub highest : InBytes 4 s 52 (price_number f.buyer.limit)
  pub lowest : InBytes 4 s 60 (price_number f.seller.limit)
  pub buyer : InBytes 1 s 64 (kind_number f.buyer.kind)
  pub seller : InBytes 1 s 65 (kind_number f.seller.kind)
  pub day : InBytes 1 s 66 (day_number f.request.day)
  pub agreement : InBytes 1 s 67 (agreement_number f.settlement.agreement)
  pub agreed : InBytes 4 s 68 (price_number f.settlement.agreed)
  pub filed : InBytes 4 s 72 f.request.filed.0
  pub made : InBytes 4 s 76 f.settlement.made.0
  pub accepted : InBytes 4 s 80 (moment_number f.settlement.accepted)
  pub differential : (d : Mills) → differential_of f.form ≡ Some d → InBytes 4 s 88 d.0
