use Rattle.best.specs.Places.{said}
use Rattle.best.specs.Best.{best_price}
use lib.ListN.{length, drop}
use mathlib.Core.Path.{◌≡◌}
use Prim.Native.Nat.{◌≤◌}
use Rattle.best.proofs.best_price.Given as goal

abbrev pub invariant-loop-i : goal.invariant-loop-i
invariant-loop-i l = (l.i ≤ 16) × ((length l.last ≡ 16) × (l.best ≡ best_price l.half (drop l.i (said l.half l.quotes l.last))))
