use native.Mathlib.Omega.{arith}
use Rattle.text.proofs.Placed.{placed_next}
use Rattle.quotes.specs.Quotes.{posted_in}
use Rattle.earlier.specs.Earlier.{earlier}
use Rattle.standing.specs.Standing.{sayers_text, born_text}
use Rattle.standing.proofs.add_born.Goals as goal

pub returns : goal.returns
unfolding born_text
returns c = let a = c.args in let lines = sayers_text a.half a.best.price (earlier a.time (posted_in a.quotes.now)) in
    let e = placed_next _ _ _ _ lines _ _ _ (omega arith) c.add_head-head.ensures.0 c.add_head-head.ensures.1 c.add_sayers.ensures.0 c.add_sayers.ensures.1 in
    (e.0, e.1, omega arith)
