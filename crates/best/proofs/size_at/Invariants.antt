use Rattle.best.specs.Places.{said}
use Rattle.best.specs.Best.{size_at}
use lib.ListN.{length, drop}
use mathlib.Core.Path.{◌≡◌}
use Prim.Native.Nat.{◌≤◌, ◌+◌, ◌*◌}
use Rattle.best.proofs.size_at.Given as goal

abbrev pub invariant-loop-i : goal.invariant-loop-i
invariant-loop-i l = (l.i ≤ 16) × ((length l.last ≡ 16) × ((l.sum + 4294967295 * l.i ≤ 68719476720) × (l.sum ≡ size_at l.price (drop l.i (said l.half l.quotes l.last)))))
