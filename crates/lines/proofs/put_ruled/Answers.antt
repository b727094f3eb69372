use Rattle.lines.proofs.Joined.{five_more}
use Rattle.lines.specs.Lines.{ruled_line}
use Rattle.text.proofs.Placed.{ran_first, ran_next}
use Rattle.lines.proofs.put_ruled.Goals as goal

pub returns : goal.returns
unfolding ruled_line
returns c = let r1 = ran_first _ _ _ _ c.add_number-trade.ensures.0 c.add_number-trade.ensures.1 in
    let r2 = ran_next _ _ _ _ _ _ _ r1 c.add_outcome-outcome.ensures.0 c.add_outcome-outcome.ensures.1 in
    let r3 = ran_next _ _ _ _ _ _ _ r2 c.add_number-reason.ensures.0 c.add_number-reason.ensures.1 in
    let r4 = ran_next _ _ _ _ _ _ _ r3 c.add_price-tp.ensures.0 c.add_price-tp.ensures.1 in
    let r5 = ran_next _ _ _ _ _ _ _ r4 c.add_price-price.ensures.0 c.add_price-price.ensures.1 in
    rw (← five_more _ _ _ _ _ _ _) (ran_next _ _ _ _ _ _ _ r5 c.add_last.ensures.0 c.add_last.ensures.1)
