-- The row that the steps tell is TP's: TP lies between its floor and its top.
use Prim.Native.Nat.{ℕ, suc, ◌≤◌, ◌<◌}
use mathlib.Core.Path.{◌≡◌, refl}
use mathlib.Core.Bool.{Bool, true, false}
use mathlib.Core.List.{List, [], ◌∷◌}
use native.Mathlib.Omega.{arith}
use lib.Dec.{leb}
use borrow.Author.Tests.{leb-true, leb-false}
use Rattle.wire.specs.Tests.{pick}
use Rattle.bands.specs.Table.{among, rows, last_row, band_of}
use Rattle.steps.specs.Words.{Mills, Band}
use Rattle.steps.specs.Found.{floor_among, floor_of}

-- a row's pick, by its test: what holds of the row where TP is at most its top, and of the pick among the rows after it where TP is above
by_row : {A : Type 0} (P : A → Type 0) (tp top : ℕ) (row rest : A) → (tp ≤ top → P row) → (top < tp → P rest) → P (pick (leb tp top) row rest)
by_row {A} P tp top row rest h l = by (leb tp top) refl where
  by : (ok : Bool) → leb tp top ≡ ok → P (pick ok row rest)
  by true e = h (leb-true tp top e)
  by false e = l (leb-false tp top e)

-- in any table whose first row's floor is at most TP: the floor picked is at most TP
floor_under : (low : ℕ) (bs : List Band) (tp : Mills) → low ≤ tp.0 → (floor_among low bs tp).0 ≤ tp.0
floor_under low [] tp h = h
floor_under low (b ∷ bs) tp h =
    by_row (λ (m : Mills). m.0 ≤ tp.0) tp.0 b.top.0 _ _ (λ below. h) (λ above. floor_under (suc b.top.0) bs tp above)

-- in any table whose last row's top is at least TP: the top of the row picked is at least TP
top_over : (last : Band) (bs : List Band) (tp : Mills) → tp.0 ≤ last.top.0 → tp.0 ≤ (among last bs tp).top.0
top_over last [] tp h = h
top_over last (b ∷ bs) tp h =
    by_row (λ (r : Band). tp.0 ≤ r.top.0) tp.0 b.top.0 _ _ (λ below. below) (λ above. top_over last bs tp h)

pub row_holds : (tp : Mills) → tp.0 ≤ 9999999 → ((floor_of tp).0 ≤ tp.0) × (tp.0 ≤ (band_of tp).top.0)
unfolding floor_of band_of
row_holds tp h = (floor_under 0 rows tp (omega arith), top_over last_row rows tp h)
