-- What the calls of a reader gave, put together, is what the bytes say. Stated apart from the calls, where congruence closure has little to read.
use Prim.Native.Nat.{ℕ, ◌+◌}
use mathlib.Core.Path.{◌≡◌}
use mathlib.Core.Bool.{Bool}
use mathlib.Core.List.{List}
use lib.ListN.{get_or}
use Rattle.wire.specs.Numbers.{elements, number_at}
use Rattle.facts.specs.Numbers.{mills, contracts, seconds, price_of, moment_of}
use Rattle.codes.specs.Codes.{side_of, kind_of, day_of, agreement_of, flag_of}
use Rattle.facts.specs.declared.Side.{Side}
use Rattle.facts.specs.declared.Kind.{Kind}
use Rattle.facts.specs.declared.Day.{Day}
use Rattle.facts.specs.declared.Agreement.{Agreement}
use Rattle.forms.specs.Forms.{form_of}
use Rattle.record.specs.Words.{Price, Moment, Form, Party, Trade, Market, Request, Settlement}
use Rattle.record.specs.Record.{trade_of, market_of, request_of, party_at, settlement_of, facts_of}

module _ (s : List ℕ) where
  pub trade_read : {number price count time : ℕ}
      → number ≡ number_at 4 s 4
      → price ≡ number_at 4 s 8
      → count ≡ number_at 4 s 12
      → time ≡ number_at 4 s 16
      → record { number = number; price = mills price; contracts = contracts count; executed = seconds time } ≡ trade_of s
  unfolding trade_of
  trade_read number price count time = cc

  pub market_read : {b o p m n : ℕ} {bid offer official : Price}
      → b ≡ number_at 4 s 20
      → bid ≡ price_of b
      → m ≡ number_at 4 s 28
      → o ≡ number_at 4 s 24
      → offer ≡ price_of o
      → n ≡ number_at 4 s 32
      → p ≡ number_at 4 s 40
      → official ≡ price_of p
      → record { bid = record { price = bid; size = contracts m }; offer = record { price = offer; size = contracts n }; official = official }
      ≡ market_of s
  unfolding market_of
  market_read b bid m o offer n p official = cc

  pub request_read : {side : Side} {opening expiry decided : Bool} {day : Day} {filed : ℕ}
      → side ≡ side_of (get_or s 44 0)
      → opening ≡ flag_of (get_or s 45 0)
      → expiry ≡ flag_of (get_or s 46 0)
      → decided ≡ flag_of (get_or s 47 0)
      → day ≡ day_of (get_or s 66 0)
      → filed ≡ number_at 4 s 72
      → record { side = side; opening = opening; expiry = expiry; decided = decided; day = day; filed = seconds filed } ≡ request_of s
  unfolding request_of
  request_read side opening expiry decided day filed = cc

  pub party_read : (at kind_at : ℕ) {code : List ℕ} {p : ℕ} {limit : Price} {kind : Kind}
      → code ≡ elements 4 s at
      → p ≡ number_at 4 s (at + 4)
      → limit ≡ price_of p
      → kind ≡ kind_of (get_or s kind_at 0)
      → record { code = code; limit = limit; kind = kind } ≡ party_at s at kind_at
  unfolding party_at
  party_read at kind_at code p limit kind = cc

  pub settlement_read : {agreement : Agreement} {p made n : ℕ} {agreed : Price} {accepted : Moment}
      → agreement ≡ agreement_of (get_or s 67 0)
      → p ≡ number_at 4 s 68
      → agreed ≡ price_of p
      → made ≡ number_at 4 s 76
      → n ≡ number_at 4 s 80
      → accepted ≡ moment_of n
      → record { agreement = agreement; agreed = agreed; made = seconds made; accepted = accepted } ≡ settlement_of s
  unfolding settlement_of
  settlement_read agreement p agreed made n accepted = cc

  pub facts_read : {form : Form} {trade : Trade} {market : Market} {request : Request} {buyer seller : Party} {settlement : Settlement}
      → form ≡ form_of s
      → trade ≡ trade_of s
      → market ≡ market_of s
      → request ≡ request_of s
      → buyer ≡ party_at s 48 64
      → seller ≡ party_at s 56 65
      → settlement ≡ settlement_of s
      → record { form = form; trade = trade; market = market; request = request; buyer = buyer; seller = seller; settlement = settlement } ≡ facts_of s
  unfolding facts_of
  facts_read form trade market request buyer seller settlement = cc
