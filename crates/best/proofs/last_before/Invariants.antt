use Rattle.earlier.specs.Earlier.{earlier}
use Rattle.best.specs.Lasts.{last_of}
use Rattle.quotes.specs.Quotes.{posted_from, posted_in}
use lib.ListN.{length}
use mathlib.Core.Path.{◌≡◌}
use Prim.Native.Nat.{◌≤◌, ◌/◌}
use Rattle.best.proofs.last_before.Given as goal

abbrev pub invariant-loop-k : goal.invariant-loop-k
invariant-loop-k l = (l.k ≤ length l.quotes / 28) × (last_of l.exchange (earlier l.trade_time (posted_from l.quotes 0 l.k)) ≡ last_of l.exchange (earlier l.trade_time (posted_in l.quotes)))
