use mathlib.Core.Path.{◌≡◌}
use Rattle.text.specs.Words.{Some, None}
use native.Mathlib.Omega.{arith}
use Rattle.text.specs.Text.{price_text}
use Rattle.text.proofs.add_price.Goals as goal

pub returns-in-Some : goal.returns-in-Some
unfolding price_text
returns-in-Some c = let e : c.args.p ≡ Some _ = c.in-Some.is in
    rw e c.add_decimal.ensures

pub returns-in-None : goal.returns-in-None
unfolding price_text
returns-in-None c = let e : c.args.p ≡ None = cc in
    rw e (c.add_byte.ensures.0, c.add_byte.ensures.1, omega (arith, c.add_byte.ensures.0))
