-- The ruling that the steps come to: nothing but the steps is read.
use Rattle.std.specs.Prelude.{◌||◌}
use Rattle.ruling.specs.Ruling.{no_relief, waiting, nullify, adjust, carried_out}
use Rattle.act.specs.Act.{obvious_act, opening_act, catastrophic_act}
use Rattle.steps.specs.Words.{Mills, Trade, Way, Source, Some, None, Act, Ruling, Acting, OnObvious, OnOpening, OnCatastrophic, End, PriceCounts, NullifyCounts, Acted, AfterError, Reached, Late, Decided, Unpriced, Priced, Steps}

abbrev pub act_from : Mills → Acting → Act
act_from tp (OnObvious a) = obvious_act a.customer a.price
act_from tp (OnOpening a) = opening_act a.tested.stopped a.maker tp
act_from tp (OnCatastrophic a) = catastrophic_act (a.buyer.stopped || a.seller.stopped) a.timely a.price

abbrev pub end_ruling : Trade → Way → Source → End → Ruling
end_ruling t way s (PriceCounts price) = adjust t way s 10 price
end_ruling t way s NullifyCounts = nullify t 13 s
end_ruling t way s (Acted a) = carried_out t way s (act_from s.price a)

abbrev pub after_ruling : Trade → Way → Source → AfterError → Ruling
after_ruling t way s None = no_relief t 1 (Some s)
after_ruling t way s (Some g) = end_ruling t way s g.end

abbrev pub reached_ruling : Trade → Reached → Ruling
reached_ruling t Late = no_relief t 2 None
reached_ruling t Decided = no_relief t 3 None
reached_ruling t (Unpriced l) = waiting t
reached_ruling t (Priced j) = after_ruling t j.way j.source j.after

unfoldable pub ruling_from : Steps → Ruling
ruling_from s = reached_ruling s.trade s.reached
