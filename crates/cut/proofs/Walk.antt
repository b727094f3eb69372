-- A walk over a sheet, by the length of each case. It serves counting, ruling, printing and filling.
use Prim.Native.Nat.{ℕ, zero, suc, ◌+◌, ◌-◌, ◌*◌, ◌≤◌, ◌<◌}
use mathlib.Core.Path.{◌≡◌, refl, sym, ap, ◌∙◌}
use mathlib.Core.Bool.{Bool, true, false, ◌&&◌}
use mathlib.Core.List.{List, [], ◌∷◌, append-nil}
use native.Mathlib.Numerals.{add-one}
use native.Mathlib.Nat.{add-sub_cancel_left}
use native.Mathlib.Omega.{arith}
use lib.ListN.{length, take, drop, get_or, length-append, length-drop}
use lib.Seq.{get_or-drop, drop-drop, drop-cons, take_all, take-length, take-suc, length-take-le}
use lib.Dec.{eqb, ltb}
use borrow.Author.Tests.{eq-eqb, ne_eqb, eqb-true, eqb-false, ltb-true, ltb-false, lt-ltb}
use Rattle.wire.specs.Numbers.{number_at}
use Rattle.wire.proofs.Tests.{both_true}
use Rattle.forms.specs.Heads.{size_in}
use Rattle.cut.specs.Cut.{IsCase, case_length, Parts, uncut, cut, cases_in, case_at, whole, together, start_of}
use Rattle.cut.proofs.First.{first, length_le}
use Rattle.cut.proofs.Cut.{cut_end, cut_more}
use Rattle.cut.proofs.Laws.{together_append, whole_joins, case_is}

-- what was cut goes by its two parts
by_parts : (p : Parts) (cs : List (List ℕ)) (l : List ℕ) → p.cases ≡ cs → p.left ≡ l → p ≡ record { cases = cs; left = l }
by_parts p cs l e f = rw (← e, ← f) refl

-- two tests that say the same
same_test : (a b c d : ℕ) → (a ≡ b → c ≡ d) → (c ≡ d → a ≡ b) → eqb a b ≡ eqb c d
same_test a b c d f g = by_test (eqb c d) refl where
  by_test : (t : Bool) → eqb c d ≡ t → eqb a b ≡ eqb c d
  by_test true e = eq-eqb a b (g (eqb-true c d e)) ∙ sym e
  by_test false e = ne_eqb a b (λ h. eqb-false c d e (f h)) ∙ sym e

-- ---- where cases begin
module _ (s : List ℕ) where
  pub start_first : start_of s 0 ≡ 0
  unfolding start_of
  start_first = refl

  pub start_next : (i : ℕ) → i < cases_in s → start_of s (suc i) ≡ start_of s i + length (case_at s i)
  unfolding start_of case_at
  start_next i l =
      ap (λ (cs : List (List ℕ)). length (together cs)) (take-suc (cut s).cases i [] l)
      ∙ rw (together_append, append-nil) (length-append (together (take i (cut s).cases)) (get_or (cut s).cases i []))

  -- from the number of cases on, the end of the last
  start_past : (i k : ℕ) → i ≡ cases_in s → i ≤ k → start_of s k ≡ start_of s i
  unfolding start_of
  start_past i k e l = rw (e, take_all k (cut s).cases (omega arith), take-length)

  pub start_end : whole s ≡ true → start_of s (cases_in s) ≡ length s
  unfolding start_of
  start_end is = rw take-length (ap length (whole_joins s is))

-- i cases passed, and `from` bytes: the bytes from here on are cut into the cases from case i on
pub record At (s : List ℕ) (i from : ℕ) : Type 0 where
  pub start : from ≡ start_of s i
  pub inside : from ≤ length s
  pub few : i * 88 ≤ from
  pub within : i ≤ cases_in s
  pub here : cut (drop from s) ≡ record { cases = drop i (cut s).cases; left = (cut s).left }

pub at_start : (s : List ℕ) → At s 0 0
at_start s = record { start = sym (start_first s); inside = omega arith; few = omega arith; within = omega arith; here = refl }

module _ (s : List ℕ) (i from : ℕ) (a : At s i from) where
  -- the next case ends in the sheet
  pub at_fits : from + case_length (drop from s) ≤ length s
  at_fits = omega (arith, length_le (drop from s), length-drop from s, a.inside)

  module _ (h : case_length (drop from s) ≡ 0 → ⊥) where
    ahead : drop i (cut s).cases ≡ take (case_length (drop from s)) (drop from s) ∷ (cut (drop (from + case_length (drop from s)) s)).cases
    ahead = ap (λ (p : Parts). p.cases) (sym a.here ∙ cut_more (drop from s) h) ∙ rw drop-drop refl

    pub at_comes : i < cases_in s
    at_comes = omega (arith, ap length ahead, length-drop i (cut s).cases)

    split : get_or (cut s).cases i [] ∷ drop (suc i) (cut s).cases ≡ take (case_length (drop from s)) (drop from s) ∷ (cut (drop (from + case_length (drop from s)) s)).cases
    split = sym (drop-cons (cut s).cases i [] at_comes) ∙ ahead

    -- it is case i
    pub at_case : take (case_length (drop from s)) (drop from s) ≡ case_at s i
    unfolding case_at
    at_case = let e = split in cc

    case_long : length (case_at s i) ≡ case_length (drop from s)
    case_long = ap length (sym at_case) ∙ length-take-le (case_length (drop from s)) (drop from s) (length_le (drop from s))

    pub at_next : At s (i + 1) (from + case_length (drop from s))
    at_next =
        let f = first (drop from s) h in
        let e = split in
        let tails : (cut (drop (from + case_length (drop from s)) s)).cases ≡ drop (suc i) (cut s).cases = cc in
        let ends : (cut (drop (from + case_length (drop from s)) s)).left ≡ (cut s).left = rw (← drop-drop) (ap (λ (p : Parts). p.left) (sym (cut_more (drop from s) h) ∙ a.here)) in
        record {
          start = rw add-one (omega (arith, a.start, start_next s i at_comes, case_long));
          inside = at_fits;
          few = omega (arith, a.few, f.size, f.low);
          within = omega (arith, at_comes);
          here = rw add-one (by_parts (cut (drop (from + case_length (drop from s)) s)) (drop (suc i) (cut s).cases) (cut s).left tails ends);
        }

  -- where cases are left, one comes next
  pub at_more : i < cases_in s → case_length (drop from s) ≡ 0 → ⊥
  at_more l e = omega (arith, ap (λ (p : Parts). length p.cases) (sym (cut_end (drop from s) e) ∙ a.here), length-drop i (cut s).cases)

  -- at the end of a whole sheet nothing is left
  pub at_end : i ≡ cases_in s → whole s ≡ true → from ≡ length s
  at_end e is = a.start ∙ ap (start_of s) e ∙ start_end s is

  -- where none comes next, all are passed, and what is left begins here
  module _ (e : case_length (drop from s) ≡ 0) where
    over : uncut (drop from s) ≡ record { cases = drop i (cut s).cases; left = (cut s).left }
    over = sym (cut_end (drop from s) e) ∙ a.here

    pub at_all : i ≡ cases_in s
    at_all = omega (arith, ap (λ (p : Parts). length p.cases) over, length-drop i (cut s).cases, a.within)

    left_long : length (cut s).left ≡ length s - from
    left_long = ap (λ (p : Parts). length p.left) (sym over) ∙ length-drop from s

    pub at_whole : eqb from (length s) ≡ whole s
    unfolding whole
    at_whole = rw left_long (same_test from (length s) (length s - from) 0 (λ h. omega arith) (λ h. omega (arith, a.inside)))

-- what `length_at` answers, of the rest of the sheet as it is lent
pub length_there : (s : List ℕ) (from r : ℕ) → from ≤ length s → r ≡ case_length (take (length s - from) (drop from s)) → (r ≡ case_length (drop from s)) × (from + r ≤ length s)
length_there s from r l e =
    let lent = take_all (length s - from) (drop from s) (omega (arith, length-drop from s)) in
    let is = e ∙ ap case_length lent in
    (is, omega (arith, length_le (drop from s), length-drop from s))

-- what `said_length` answers, where a case begins: its head stands at the place
head_there : (s : List ℕ) (from : ℕ) → size_in (drop from s) ≡ number_at 2 s from
unfolding number_at
head_there s from = simp (get_or-drop from s 0 0, get_or-drop from s 1 0)

pub said_there : (s : List ℕ) (from r : ℕ) → from ≤ length s → (case_length (drop from s) ≡ 0 → ⊥) → r ≡ number_at 2 s from
    → (r ≡ case_length (drop from s)) × (from + r ≤ length s)
said_there s from r l h e =
    let f = first (drop from s) h in
    let is : r ≡ case_length (drop from s) = e ∙ sym (head_there s from) ∙ sym f.size in
    (is, omega (arith, length_le (drop from s), length-drop from s))

-- the head of a case that begins there is within the bytes
pub head_within : (s : List ℕ) (from : ℕ) → (case_length (drop from s) ≡ 0 → ⊥) → from + 2 ≤ length s
head_within s from h = let f = first (drop from s) h in omega (arith, f.low, f.fits, length-drop from s)

-- ---- a turn, where the code asks how long the next case is and lends it
module _ (s : List ℕ) (i from step : ℕ) (a : At s i from) (l : i < cases_in s) (e : step ≡ case_length (drop from s)) where
  pub at_lent : take (from + step - from) (drop from s) ≡ case_at s i
  at_lent = rw (add-sub_cancel_left from step, e) (at_case s i from a (at_more s i from a l))

  -- so what is lent is a case by its head
  pub at_is : IsCase (take (from + step - from) (drop from s))
  at_is = rw at_lent (case_is s i l)

  pub at_step : At s (i + 1) (from + step)
  at_step = rw e (at_next s i from a (at_more s i from a l))

  pub at_long : length (case_at s i) ≡ step
  at_long = rw e (case_long s i from a (at_more s i from a l))

-- the walk up to case i
pub at_of : (s : List ℕ) (i : ℕ) → i ≤ cases_in s → At s i (start_of s i)
at_of s zero l = rw (start_first s) (at_start s)
at_of s (suc i) l =
    let a = at_of s i (omega arith) in
    let b = at_next s i (start_of s i) a (at_more s i (start_of s i) a (omega arith)) in
    rw (← add-one, ← b.start) b

-- ---- counting: `step` is the length of the next case
pub record Counted (s : List ℕ) (n from step : ℕ) : Type 0 where
  pub at : At s n from
  pub ahead : step ≡ case_length (drop from s)
  pub fits : from + step ≤ length s

pub counted_start : (s : List ℕ) (step : ℕ) → (step ≡ case_length s) × (0 + step ≤ length s) → Counted s 0 0 step
counted_start s step e = record { at = at_start s; ahead = e.0; fits = e.1 }

pub counted_next : (s : List ℕ) (n from step next : ℕ) → Counted s n from step → 0 < step
    → (next ≡ case_length (drop (from + step) s)) × (from + step + next ≤ length s) → Counted s (n + 1) (from + step) next
counted_next s n from step next c h e =
    record { at = rw c.ahead (at_next s n from c.at (λ z. omega (arith, c.ahead))); ahead = e.0; fits = e.1 }

-- up to case k: the test of the loop, where it goes on and where it stops
pub goes_on : (i k step : ℕ) → (ltb i k && ltb 0 step) ≡ true → (i < k) × (0 < step)
goes_on i k step h = let e = both_true (ltb i k) (ltb 0 step) h in (ltb-true i k e.0, ltb-true 0 step e.1)

pub stops : (i k step : ℕ) → (ltb i k && ltb 0 step) ≡ false → i < k → step ≤ 0
stops i k step h l = ltb-false 0 step (simp (lt-ltb i k l) at h)

-- the place of case k: i cases passed, and either i is k or no case comes
pub counted_place : (s : List ℕ) (i from step k : ℕ) → Counted s i from step → i ≤ k → (i < k → step ≤ 0) → from ≡ start_of s k
counted_place s i from step k c l h = by_test (ltb i k) refl where
  by_test : (b : Bool) → ltb i k ≡ b → from ≡ start_of s k
  by_test true e =
      let none : case_length (drop from s) ≡ 0 = omega (arith, c.ahead, h (ltb-true i k e)) in
      c.at.start ∙ sym (start_past s i k (at_all s i from c.at none) l)
  by_test false e = c.at.start ∙ ap (start_of s) (let z : i ≡ k = omega (arith, ltb-false i k e) in z)

pub counted_end : (s : List ℕ) (n from step : ℕ) → Counted s n from step → step ≤ 0 → (eqb from (length s) ≡ whole s) × (n ≡ cases_in s)
counted_end s n from step c h =
    let none : case_length (drop from s) ≡ 0 = omega (arith, c.ahead) in
    (at_whole s n from c.at none, at_all s n from c.at none)
