-- The case record (RULE R2.6): what each row of the page's table says, and the bytes that say it. What stands behind the first 88 is the form's
-- (`forms`).
use Rattle.std.specs.Prelude.{ℕ, ◌+◌, List, [], ◌∷◌, ◌++◌, get_or}
use Rattle.wire.specs.Numbers.{bytes, elements, number_at, stored}
use Rattle.forms.specs.Forms.{form_length, form_kind, form_tail, form_of}
use Rattle.record.specs.Words.{Seconds, Form, Party, Trade, Market, Request, Settlement, Facts}
use Rattle.facts.specs.Numbers.{mills, contracts, seconds, price_of, price_number, moment_of, moment_number}
use Rattle.codes.specs.Codes.{side_of, side_number, kind_of, kind_number, day_of, day_number, agreement_of, agreement_number, flag_of, flag_number}

-- ---- what the bytes say: at N, the number or byte that stands there

unfoldable pub trade_of : List ℕ → Trade
trade_of s =
    record {
      number = number_at 4 s 4;
      price = mills (number_at 4 s 8);
      contracts = contracts (number_at 4 s 12);
      executed = seconds (number_at 4 s 16);
    }

unfoldable pub market_of : List ℕ → Market
market_of s =
    record {
      bid = record { price = price_of (number_at 4 s 20); size = contracts (number_at 4 s 28) };
      offer = record { price = price_of (number_at 4 s 24); size = contracts (number_at 4 s 32) };
      official = price_of (number_at 4 s 40);
    }

unfoldable pub request_of : List ℕ → Request
request_of s =
    record {
      side = side_of (get_or s 44 0);
      opening = flag_of (get_or s 45 0);
      expiry = flag_of (get_or s 46 0);
      decided = flag_of (get_or s 47 0);
      day = day_of (get_or s 66 0);
      filed = seconds (number_at 4 s 72);
    }

-- a party: the code at `at` with the limit behind it, and the kind at `kind`
unfoldable pub party_at : List ℕ → ℕ → ℕ → Party
party_at s at kind = record { code = elements 4 s at; limit = price_of (number_at 4 s (at + 4)); kind = kind_of (get_or s kind 0) }

unfoldable pub settlement_of : List ℕ → Settlement
settlement_of s =
    record {
      agreement = agreement_of (get_or s 67 0);
      agreed = price_of (number_at 4 s 68);
      made = seconds (number_at 4 s 76);
      accepted = moment_of (number_at 4 s 80);
    }

unfoldable pub facts_of : List ℕ → Facts
facts_of s =
    record {
      form = form_of s;
      trade = trade_of s;
      market = market_of s;
      request = request_of s;
      buyer = party_at s 48 64;
      seller = party_at s 56 65;
      settlement = settlement_of s;
    }

-- ---- the bytes that say facts, a stretch of the record after the other

-- 0 length; 2 kind
abbrev pub head_bytes : Form → List ℕ
head_bytes form = bytes 2 (form_length form) ++ bytes 2 (form_kind form)

-- 4 trade number; 8 execution price; 12 contracts; 16 execution time
abbrev pub trade_bytes : Trade → List ℕ
trade_bytes t = bytes 4 t.number ++ bytes 4 t.price.0 ++ bytes 4 t.contracts.0 ++ bytes 4 t.executed.0

-- 20, 24 best bid, best offer; 28, 32 bid size, offer size; 36 zero; 40 official's price
abbrev pub market_bytes : Market → List ℕ
market_bytes m =
    bytes 4 (price_number m.bid.price) ++ bytes 4 (price_number m.offer.price) ++ bytes 4 m.bid.size.0 ++ bytes 4 m.offer.size.0
    ++ bytes 4 0 ++ bytes 4 (price_number m.official)

-- 44 side in error; 45 on the opening; 46 the expiry deadline holds; 47 panel already decided
abbrev pub flag_bytes : Request → List ℕ
flag_bytes r = side_number r.side ∷ flag_number r.opening ∷ flag_number r.expiry ∷ flag_number r.decided ∷ []

-- 48, 56 a party's member code; 52, 60 its limit
abbrev pub party_bytes : Party → List ℕ
party_bytes p = elements 4 p.code 0 ++ bytes 4 (price_number p.limit)

-- the list with a party's bytes from a place on; at a numeral it computes to `stored o at (party_bytes p)`
abbrev pub party_stored : List ℕ → ℕ → Party → List ℕ
party_stored o at p = stored (stored o at (elements 4 p.code 0)) (at + 4) (bytes 4 (price_number p.limit))

-- 64 buyer's kind; 65 seller's kind; 66 filing day; 67 agreement
abbrev pub list_bytes : Facts → List ℕ
list_bytes f = kind_number f.buyer.kind ∷ kind_number f.seller.kind ∷ day_number f.request.day ∷ agreement_number f.settlement.agreement ∷ []

-- 68 agreed price; 72 filing time; 76 agreement made; 80 acceptance; 84 zero
abbrev pub tail_bytes : Seconds → Settlement → List ℕ
tail_bytes filed s =
    bytes 4 (price_number s.agreed) ++ bytes 4 filed.0 ++ bytes 4 s.made.0 ++ bytes 4 (moment_number s.accepted) ++ bytes 4 0

-- all of it in a form: what the form adds stands last
abbrev pub bytes_as : Form → Facts → List ℕ
bytes_as form f =
    head_bytes form ++ trade_bytes f.trade ++ market_bytes f.market ++ flag_bytes f.request ++ party_bytes f.buyer ++ party_bytes f.seller
    ++ list_bytes f ++ tail_bytes f.request.filed f.settlement ++ form_tail form

abbrev pub record_bytes : Facts → List ℕ
record_bytes f = bytes_as f.form f
