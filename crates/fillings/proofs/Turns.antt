-- The loop over the cases: what a turn adds, and what it ends with.
use Prim.Native.Nat.{ℕ, ◌+◌, ◌-◌, ◌≤◌, ◌<◌}
use mathlib.Core.Path.{◌≡◌, refl, sym, ap, ◌∙◌}
use mathlib.Core.Bool.{true}
use mathlib.Core.List.{List, ◌++◌, append_assoc, append-nil}
use native.Mathlib.Numerals.{add-one}
use native.Mathlib.Nat.{add-sub_cancel_left}
use native.Mathlib.Omega.{arith}
use lib.ListN.{length, take, drop}
use lib.Seq.{take_at, drop_at, drop-drop, drop-length}
use borrow.Rule.Slice.PartMut.{mid_of, put_mid}
use Rattle.wire.specs.Laid.{laid, row}
use Rattle.cut.specs.Cut.{case_length}
use Rattle.cut.proofs.Walk.{At, at_start, at_comes, at_lent, at_step, at_all}
use Rattle.sheet.specs.Sheet.{whole, case_at, cases_in}
use Rattle.filling.specs.Filling.{filling_of}
use Rattle.fillings.specs.Fillings.{filled_case}
use Rattle.fillings.proofs.Laws.{row_long, all_long}

-- the first i cases are filled, and every byte after them, from `from` on, is as it was; `step` is the length of the next case
pub record Turn (q s m : List ℕ) (from step : ℕ) : Type 0 where
  pub i : ℕ
  pub walked : At s i from
  pub done : m ≡ laid (row (filled_case q s) i) s
  pub ahead : step ≡ case_length (drop from s)
  pub fits : from + step ≤ length s
  pub same : length m ≡ length s

pub first : (q s : List ℕ) (step : ℕ) → (step ≡ case_length s) × (0 + step ≤ length s) → Turn q s s 0 step
unfolding laid row
first q s step e = record { i = 0; walked = at_start s; done = refl; ahead = e.0; fits = e.1; same = refl }

-- the rest of a sheet whose first i cases are filled is the rest of the sheet
module _ (q s : List ℕ) (i from : ℕ) (walked : At s i from) where
  long : length (row (filled_case q s) i) ≡ from
  long = row_long q s i walked.within ∙ sym walked.start

  module _ (m : List ℕ) (done : m ≡ laid (row (filled_case q s) i) s) where
    lies : m ≡ row (filled_case q s) i ++ drop from s
    unfolding laid
    lies = done ∙ rw long

    front : take from m ≡ row (filled_case q s) i
    front = rw lies (take_at (row (filled_case q s) i) (drop from s) from long)

    rest : drop from m ≡ drop from s
    rest = rw lies (drop_at (row (filled_case q s) i) (drop from s) from long)

-- a turn: the part that is lent is case i as it was, and comes back filled
module _ (q s m ys : List ℕ) (from step : ℕ) (t : Turn q s m from step) (more : 0 < step) (e : ys ≡ (filling_of q (mid_of from (from + step - from) m)).1) where
  abbrev n : ℕ
  n = t.i

  comes : n < cases_in s
  comes = at_comes s n from t.walked (λ z. omega (arith, t.ahead))

  lent : mid_of from (from + step - from) m ≡ case_at s n
  lent = rw (rest q s n from t.walked m t.done) (at_lent s n from step t.walked comes t.ahead)

  given : ys ≡ filled_case q s n
  given = rw lent at e

  on : At s (n + 1) (from + step)
  on = at_step s n from step t.walked comes t.ahead

  filled_next : put_mid from (from + step - from) m ys ≡ laid (row (filled_case q s) (n + 1)) s
  unfolding laid row
  filled_next =
      rw (long q s (n + 1) (from + step) on, add-sub_cancel_left from step, front q s n from t.walked m t.done, rest q s n from t.walked m t.done, given, add-one, drop-drop, append_assoc)

  pub next : (next-step : ℕ) → length (put_mid from (from + step - from) m ys) ≡ length m
      → (next-step ≡ case_length (drop (from + step) (put_mid from (from + step - from) m ys))) × (from + step + next-step ≤ length (put_mid from (from + step - from) m ys))
      → Turn q s (put_mid from (from + step - from) m ys) (from + step) next-step
  next next-step same e =
      record {
        i = n + 1;
        walked = on;
        done = filled_next;
        ahead = e.0 ∙ ap case_length (rest q s (n + 1) (from + step) on (put_mid from (from + step - from) m ys) filled_next);
        fits = omega (arith, e.1, t.same);
        same = same ∙ t.same;
      }

-- after the last turn nothing of the sheet is left over
pub last : (q s m : List ℕ) (from step : ℕ) → Turn q s m from step → step ≤ 0 → whole s ≡ true → m ≡ row (filled_case q s) (cases_in s)
unfolding laid
last q s m from step t none is =
    let all : t.i ≡ cases_in s = at_all s t.i from t.walked (omega (arith, t.ahead)) in
    t.done ∙ rw (all, all_long q s is, drop-length, append-nil)
