use Rattle.bands.specs.Amounts.{obvious_adjustment_of}
use borrow.Author.Tests.{lt-ltb, le-ltb}
use native.Mathlib.Omega.{arith}
use Rattle.bands.proofs.obvious_adjustment.Goals as goal

pub returns-then-tp-lt3000 : goal.returns-then-tp-lt3000
unfolding obvious_adjustment_of
returns-then-tp-lt3000 c = simp (lt-ltb c.args.tp.0 3000 (omega arith))

pub returns : goal.returns
unfolding obvious_adjustment_of
returns c = simp (le-ltb c.args.tp.0 3000 (omega arith))
