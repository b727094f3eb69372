use Prim.Native.Nat.{ℕ, zero, suc, ◌-◌, ◌/◌, ◌≤◌, ◌<◌}
use mathlib.Core.Path.{◌≡◌, refl}
use mathlib.Core.Bool.{true, false}
use mathlib.Core.List.{◌++◌}
use native.Mathlib.Omega.{arith}
use lib.Dec.{ltb}
use borrow.Author.Tests.{lt-ltb, le-ltb}
use Rattle.text.specs.Text.{decimal_of}
use Rattle.text.proofs.Placed.{placed_next}
use Rattle.words.specs.Grouped.{group, grouped_by}
use Rattle.words.proofs.Lengths.{grouped_most}
use Rattle.words.proofs.+add_grouped.Goals as goal
use Rattle.words.proofs.+add_grouped.Goals.{then-groups-eq0-via-then-groups-eq0, then-groups-eq0-via-else-groups-eq0+then-n-lt1000}

no_groups : (k n : ℕ) → k ≡ 0 → grouped_by k n ≡ decimal_of n
unfolding grouped_by
no_groups k n e = rw e refl

few : (k n : ℕ) → n < 1000 → grouped_by k n ≡ decimal_of n
unfolding grouped_by
few zero n h = refl
few (suc k) n h = rw (lt-ltb n 1000 h) refl

many : (k n : ℕ) → 1 ≤ k → 1000 ≤ n → grouped_by k n ≡ grouped_by (k - 1) (n / 1000) ++ group n
unfolding grouped_by
many zero n l h = absurd (omega arith)
many (suc k) n l h = let e : suc k - 1 ≡ k = omega arith in rw (le-ltb n 1000 h, e) refl

pub returns-then-groups-eq0 : goal.returns-then-groups-eq0
returns-then-groups-eq0 t c = let a = c.args in let d = c.add_decimal.ensures in
    elim c.then-groups-eq0.branch [
      | then-groups-eq0-via-then-groups-eq0 w ↦ simp (no_groups a.groups a.n w.if-groups-eq0.true) (d.0, d.1)
      | then-groups-eq0-via-else-groups-eq0+then-n-lt1000 w ↦ simp (few a.groups a.n w.if-n-lt1000.true) (d.0, d.1)
    ]

pub add_word-requires : goal.add_word-requires
add_word-requires t c = let a = c.args in let e = grouped_most (a.groups - 1) (a.n / 1000) (omega arith) in
    simp c.group_of.ensures (omega (arith, c.requires, c.add_grouped-next.ensures.0, e))

pub returns : goal.returns
returns t c = let a = c.args in let e = many a.groups a.n (omega arith) (omega arith) in
    let v = simp c.group_of.ensures at c.add_word.ensures in
    rw e (placed_next _ _ _ _ _ _ _ _ (omega arith) c.add_grouped-next.ensures.0 c.add_grouped-next.ensures.1 v.0 v.1)
