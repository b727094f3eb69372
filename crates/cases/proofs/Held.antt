-- What the type of the facts gives, out of the reading that Rattle has of every value of it: field by field, in the order of the source.
use mathlib.Core.List.{List}
use native.Mathlib.Omega.{arith}
use mir.Val.{Val}
use denote.Laws.{Is}
use denote.Struct.Declared.{row}
use Rattle.facts.specs.contracts.Facts.{the_type}
use Rattle.cases.specs.Words.{Facts}
use Rattle.cases.specs.Cases.{Held}

pub held : (f : Facts) (vs : List Val) → Is (row the_type) f vs → Held f
held f vs (values, (one, (form, (trade, (market, (request, (buyer, (seller, rest)))))))) =
    record {
      number = omega (arith, trade.1.1.0);
      buyer = buyer.1.1.0.1.0.1;
      seller = seller.1.1.0.1.0.1;
    }
