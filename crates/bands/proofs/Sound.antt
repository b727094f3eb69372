-- One test over a whole table gives its rule at every TP; ours passes it by computation. A row is tested at its top alone,
-- since the obvious adjustment does not fall as TP rises.
use Prim.Native.Nat.{◌≤◌, ◌<◌}
use mathlib.Core.Path.{◌≡◌, refl}
use mathlib.Core.Bool.{Bool, true, false, ◌&&◌}
use mathlib.Core.List.{List, [], ◌∷◌}
use native.Mathlib.Omega.{arith}
use lib.Dec.{T, leb, ltb, leb→le}
use borrow.Author.Tests.{leb-true, ltb-true, ltb-false}
use Rattle.wire.specs.Tests.{pick}
use Rattle.bands.specs.Words.{Mills, mills, Band}
use Rattle.bands.specs.Table.{among, rows, last_row, band_of}
use Rattle.bands.specs.Amounts.{obvious_adjustment_of}
use Rattle.bands.specs.Sound.{Sound}

-- ---- the test

-- of a row that serves no TP above this one
abbrev pub sound_up_to : Mills → Band → Bool
sound_up_to tp b =
    leb b.obvious.0 b.catastrophic.0
    && leb b.adjustment.0 b.catastrophic.0
    && leb (obvious_adjustment_of tp).0 b.obvious.0

-- of a table: each row up to its top, the last one up to the highest price
abbrev pub sound_rows : Band → List Band → Bool
sound_rows last [] = sound_up_to (mills 9999999) last
sound_rows last (b ∷ bs) = sound_up_to b.top b && sound_rows last bs

-- ---- what it shows

parts : (a b : Bool) → T (a && b) → T a × T b
parts true b t = (tt, t)
parts false b t = absurd t

-- the rule, of a row at a TP
abbrev Holds : Mills → Band → Type 0
Holds tp b =
    (b.obvious.0 ≤ b.catastrophic.0)
    × (b.adjustment.0 ≤ b.catastrophic.0)
    × ((obvious_adjustment_of tp).0 ≤ b.obvious.0)

-- from $3 on the obvious adjustment stays, below $3 it is less
not_falling : (t u : Mills) → (u.0 < 3000 → t.0 < 3000) → (obvious_adjustment_of t).0 ≤ (obvious_adjustment_of u).0
unfolding obvious_adjustment_of
not_falling t u h = by_test (ltb t.0 3000) (ltb u.0 3000) refl refl where
  by_test : (a b : Bool) → ltb t.0 3000 ≡ a → ltb u.0 3000 ≡ b → (pick a (mills 150) (mills 300)).0 ≤ (pick b (mills 150) (mills 300)).0
  by_test true true e f = omega arith
  by_test true false e f = omega arith
  by_test false false e f = omega arith
  by_test false true e f = let k = h (ltb-true u.0 3000 f) in omega (arith, ltb-false)

-- a row that passes up to u holds at any t that is not further up
row_sound : (t u : Mills) (b : Band) → (u.0 < 3000 → t.0 < 3000) → T (sound_up_to u b) → Holds t b
row_sound t u b h s =
    let o = leb b.obvious.0 b.catastrophic.0 in
    let a = leb b.adjustment.0 b.catastrophic.0 in
    let p = parts (o && a) (leb (obvious_adjustment_of u).0 b.obvious.0) s in
    let q = parts o a p.0 in
    let n : (obvious_adjustment_of u).0 ≤ b.obvious.0 = leb→le _ _ p.1 in
    (leb→le _ _ q.0, leb→le _ _ q.1, omega (arith, not_falling t u h))

-- and so does the row that is found for a TP
row_found : (tp : Mills) (last : Band) (bs : List Band) → T (sound_rows last bs) → Holds tp (among last bs tp)
row_found tp last [] s = row_sound tp (mills 9999999) last (λ h. omega arith) s
row_found tp last (b ∷ bs) s = by_test (leb tp.0 b.top.0) refl (row_found tp last bs p.1) where
  p : T (sound_up_to b.top b) × T (sound_rows last bs)
  p = parts (sound_up_to b.top b) (sound_rows last bs) s

  by_test : (a : Bool) → leb tp.0 b.top.0 ≡ a → Holds tp (among last bs tp) → Holds tp (pick a b (among last bs tp))
  by_test true e k = row_sound tp b.top b (λ h. omega (arith, leb-true)) p.0
  by_test false e k = k

-- a table that passes the test is sound
pub table_sound : (last : Band) (bs : List Band) → T (sound_rows last bs) → Sound (among last bs)
table_sound last bs s =
    record {
      obvious_least = λ tp. (row_found tp last bs s).0;
      adjustment_within = λ tp. (row_found tp last bs s).1;
      obvious_adjustment_within = λ tp. (row_found tp last bs s).2;
    }

-- ---- and the page's table does
pub bands_sound : Sound band_of
unfolding band_of obvious_adjustment_of
bands_sound = table_sound last_row rows tt
