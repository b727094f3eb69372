-- What is wide, and what is not.
use Prim.Native.Nat.{◌+◌, ◌*◌, ◌≤◌, ◌<◌}
use mathlib.Core.Path.{◌≡◌, refl}
use mathlib.Core.Bool.{true, false, false≢true}
use native.Mathlib.Omega.{arith}
use borrow.Author.Tests.{le-leb, lt-leb, leb-true}
use Rattle.width.specs.Words.{Mills, Price, Some, None}
use Rattle.width.specs.Width.{apart, wide}

-- at least twice the differential apart
pub far : (d b o : Mills) → b.0 + 2 * d.0 ≤ o.0 → apart d b o ≡ true
unfolding apart
far d b o h = le-leb (b.0 + 2 * d.0) o.0 h

pub near : (d b o : Mills) → o.0 < b.0 + 2 * d.0 → apart d b o ≡ false
unfolding apart
near d b o h = lt-leb (b.0 + 2 * d.0) o.0 h

pub is_far : (d b o : Mills) → apart d b o ≡ true → b.0 + 2 * d.0 ≤ o.0
unfolding apart
is_far d b o h = leb-true (b.0 + 2 * d.0) o.0 h

-- a crossed market, the bid above the offer, is not wide, whatever the differential
pub crossed_near : (d b o : Mills) → o.0 < b.0 → apart d b o ≡ false
crossed_near d b o h = near d b o (omega arith)

pub crossed_narrow : (d : Price) (b o : Mills) → o.0 < b.0 → wide d (Some b) (Some o) ≡ false
crossed_narrow (Some d) b o h = crossed_near d b o h
crossed_narrow None b o h = refl

-- nor are quotes of which one is none
pub bid_missing : (d o : Price) → wide d None o ≡ false
bid_missing (Some d) o = refl
bid_missing None o = refl

pub offer_missing : (d b : Price) → wide d b None ≡ false
offer_missing (Some d) (Some b) = refl
offer_missing (Some d) None = refl
offer_missing None b = refl

-- what is wide has a differential and two quotes, at least twice as far apart
pub is_wide_of : (p q r : Price) → wide p q r ≡ true
    → (d : Mills) × (b : Mills) × (o : Mills) × (p ≡ Some d) × (q ≡ Some b) × (r ≡ Some o) × (b.0 + 2 * d.0 ≤ o.0)
is_wide_of (Some d) (Some b) (Some o) h = (d, b, o, refl, refl, refl, is_far d b o h)
is_wide_of (Some d) (Some b) None h = absurd (false≢true h)
is_wide_of (Some d) None r h = absurd (false≢true h)
is_wide_of None q r h = absurd (false≢true h)
