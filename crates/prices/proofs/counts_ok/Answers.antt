use Prim.Native.Nat.{ℕ}
use mathlib.Core.Path.{ap₂}
use mathlib.Core.Bool.{Bool, ◌&&◌}
use lib.Dec.{leb}
use Rattle.refusals.specs.Tests.{counts_ok}
use Rattle.prices.proofs.counts_ok.Goals as goal

abbrev counted : ℕ → Bool
counted n = leb 1 n && leb n 1000000

pub returns-then-not-t : goal.returns-then-not-t
unfolding counts_ok
returns-then-not-t c = simp c.if-not-t.true

pub returns : goal.returns
unfolding counts_ok
returns c = simp c.if-not-t.false (ap₂ ◌&&◌ c.quote_ok.ensures c.quote_ok-2.ensures)
