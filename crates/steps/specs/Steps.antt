-- What each step of the ruling found, up to where the ruling stopped (RULE R1.8).
use Rattle.std.specs.Prelude.{Bool}
use Rattle.wire.specs.Tests.{pick}
use Rattle.parties.specs.Parties.{by_side, any_customer}
use Rattle.bands.specs.Table.{band_of}
use Rattle.theory.specs.Theory.{theory_of}
use Rattle.agreement.specs.Agreed.{heeded_of, agreement_time}
use Rattle.steps.specs.Words.{Facts, Way, Obvious, Opening, Catastrophic, Open, Some, None, Source, Theory, Heeded, Ignored, Repriced, Undone, End, PriceCounts, NullifyCounts, Acted, Settled, AfterError, Judged, Reached, Late, Decided, Unpriced, Priced, Steps}
use Rattle.steps.specs.Tried.{clock_of, tried_of, open_of}
use Rattle.steps.specs.Found.{looked_of, error_of, act_step_of, ignored_why}

abbrev pub end_of : Facts → Way → Source → Heeded → End
end_of f way s (Repriced price) = PriceCounts price
end_of f way s Undone = NullifyCounts
end_of f way s Ignored =
    Acted (act_step_of way f.request.side f.buyer f.seller f.settlement.accepted s.price (band_of s.price))

unfoldable pub settled_of : Facts → Way → Source → Settled
settled_of f way s =
    let customer = any_customer f.buyer.kind f.seller.kind in
    record {
      terms = f.settlement;
      customer = customer;
      allowed = agreement_time customer;
      ignored = ignored_why f.settlement way customer;
      end = end_of f way s (heeded_of f.settlement way customer);
    }

-- agreement and the act are for a trade in error alone
abbrev pub after_of : Facts → Way → Source → Bool → AfterError
after_of f way s wrong = pick wrong (Some (settled_of f way s)) None

unfoldable pub judged_of : Facts → Way → Source → Judged
judged_of f way s =
    let off = error_of f.request.side f.trade.price s.price way in
    record {
      way = way;
      looked = looked_of f.form f.request.side f.market;
      source = s;
      off = off;
      after = after_of f way s off.wrong;
    }

abbrev pub reached_from : Facts → Way → Theory → Reached
reached_from f way (Some s) = Priced (judged_of f way s)
reached_from f way None = Unpriced (looked_of f.form f.request.side f.market)

unfoldable pub reached_on : Facts → Way → Reached
reached_on f way = reached_from f way (theory_of f.form f.request.side f.market)

unfoldable pub reached_by : Facts → Way → Reached
reached_by f Obvious = reached_on f Obvious
reached_by f Opening = reached_on f Opening
reached_by f Catastrophic = pick f.request.decided Decided (reached_on f Catastrophic)

abbrev pub reached_if : Facts → Open → Reached
reached_if f (Some way) = reached_by f way
reached_if f None = Late

unfoldable pub steps_of : Facts → Steps
steps_of f =
    let kind = by_side f.request.side f.buyer.kind f.seller.kind in
    let tried = tried_of f.trade.executed f.request kind in
    record {
      trade = f.trade;
      clock = clock_of f.trade.executed f.request kind;
      tried = tried;
      reached = reached_if f (open_of tried);
    }
