-- The laws that the counter relies on (RULE R12.1, R12.2), of any sound table.
use Prim.Native.Nat.{ℕ, ◌+◌, ◌≤◌}
use mathlib.Core.Path.{◌≡◌}
use mathlib.Core.Bool.{true}
use native.Mathlib.Omega.{arith}
use borrow.Author.Tests.{le-leb, leb-true}
use Rattle.bands.specs.Words.{Mills, Side, Buy, Sell, Band}
use Rattle.bands.specs.Amounts.{in_error, largest, moved_by}
use Rattle.bands.specs.Between.{Between, Apart}
use Rattle.bands.specs.Sound.{Sound}

-- an error by a minimum is one by any smaller minimum
pub smaller_minimum : (s : Side) (x t m n : Mills) → n.0 ≤ m.0 → in_error s x t m ≡ true → in_error s x t n ≡ true
unfolding in_error
smaller_minimum Buy x t m n h e = le-leb (t.0 + n.0) x.0 (omega (arith, leb-true (t.0 + m.0) x.0 e))
smaller_minimum Sell x t m n h e = le-leb (x.0 + n.0) t.0 (omega (arith, leb-true (x.0 + m.0) t.0 e))

-- every catastrophic error is an obvious one at the same TP
pub catastrophic_is_obvious : {bands : Mills → Band} → Sound bands → (s : Side) (x t : Mills)
    → in_error s x t (bands t).catastrophic ≡ true → in_error s x t (bands t).obvious ≡ true
catastrophic_is_obvious {bands} sound s x t e = smaller_minimum s x t (bands t).catastrophic (bands t).obvious (sound.obvious_least t) e

-- ---- TP moved by no more than the minimum that the error passed

-- it is moved by the whole amount: a sell's price does not fall short at 0, nor a buy's at the largest number
pub moved_apart : (s : Side) (x t m by : Mills) → x.0 ≤ largest → by.0 ≤ m.0 → in_error s x t m ≡ true → Apart s t by (moved_by s t by)
unfolding in_error moved_by
moved_apart Buy x t m by l h e = omega (arith, leb-true (t.0 + m.0) x.0 e)
moved_apart Sell x t m by l h e = omega (arith, leb-true (x.0 + m.0) t.0 e)

-- it lies between TP and execution, ends included
pub moved_between : (s : Side) (x t m by : Mills) → x.0 ≤ largest → by.0 ≤ m.0 → in_error s x t m ≡ true → Between t (moved_by s t by) x
unfolding in_error moved_by
moved_between Buy x t m by l h e = omega (arith, leb-true (t.0 + m.0) x.0 e)
moved_between Sell x t m by l h e = omega (arith, leb-true (x.0 + m.0) t.0 e)

-- where TP and execution are prices, it is one
pub moved_priced : (s : Side) (x t m by : Mills) (top : ℕ) → by.0 ≤ m.0 → in_error s x t m ≡ true → t.0 ≤ top → x.0 ≤ top → (moved_by s t by).0 ≤ top
unfolding in_error moved_by
moved_priced Buy x t m by top h e a b = omega (arith, leb-true (t.0 + m.0) x.0 e)
moved_priced Sell x t m by top h e a b = omega arith
