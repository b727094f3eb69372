-- What other programs are told: of a sheet (RULE R10.5) the four numbers of its answer, as they are; of a lookup (RULE R16.9, R16.22) the
-- refusal, both prices in mills or 4,294,967,295 for none, their sizes, and how many quotes were read.
use Rattle.facts.specs.Numbers.{price_number}
use Rattle.desk.specs.Words.{SheetAnswer, DeskSheet, Looked, DeskBest}

abbrev pub desk_sheet : SheetAnswer → DeskSheet
desk_sheet a = record { refusal = a.refusal; written = a.written; ruled = a.ruled; refused = a.refused }

abbrev pub desk_best : Looked → DeskBest
desk_best l =
    let f = l.found in
    record {
      refusal = f.refusal;
      bid = price_number f.bid.price;
      offer = price_number f.offer.price;
      bid_size = f.bid.size.0;
      offer_size = f.offer.size.0;
      examined = l.examined;
    }
