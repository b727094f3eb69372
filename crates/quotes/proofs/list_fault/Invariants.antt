use Rattle.quotes.specs.Quotes.{posted_from, records_ok, rising_from}
use lib.ListN.{length}
use mathlib.Core.Bool.{◌&&◌}
use mathlib.Core.Path.{◌≡◌}
use Prim.Native.Nat.{◌-◌, ◌≤◌, ◌/◌}
use Rattle.quotes.proofs.list_fault.Given as goal

abbrev pub invariant-loop-k : goal.invariant-loop-k
invariant-loop-k l = (l.k ≤ length l.s / 28) × (records_ok l.s l.k (l.n - l.k) ≡ records_ok l.s 0 l.n) × ((l.rising && rising_from l.earlier (posted_from l.s l.k (l.n - l.k))) ≡ rising_from 0 (posted_from l.s 0 l.n))
