use Rattle.facts.specs.Numbers.{price_of}
use mathlib.Core.Path.{◌≡◌}
use native.Mathlib.Omega.{arith}
use Rattle.text.proofs.Placed.{placed_next}
use Rattle.lines.proofs.add_price.Goals as goal

pub returns : goal.returns
returns c = let v : c.price_of.result ≡ price_of c.args.p = c.price_of.ensures.0 in
    let e = placed_next _ _ _ _ _ _ _ _ (omega arith) c.add_price-next.ensures.0 c.add_price-next.ensures.1 c.add_byte.ensures.0 c.add_byte.ensures.1 in
    rw (← v) (e.0, e.1, omega (arith, c.add_price-next.ensures.2, c.add_byte.ensures.0))
