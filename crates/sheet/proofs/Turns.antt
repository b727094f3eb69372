-- What `sheet_of` is, by the tests that lead there, and what a turn of the loop adds.
use Prim.Native.Nat.{ℕ, ◌+◌, ◌-◌, ◌*◌, ◌≤◌, ◌<◌}
use mathlib.Core.Path.{◌≡◌, refl, ◌∙◌}
use mathlib.Core.Bool.{Bool, true, false}
use mathlib.Core.List.{List, ◌++◌}
use native.Mathlib.Numerals.{add-one}
use native.Mathlib.Nat.{suc-mul}
use native.Mathlib.Omega.{arith}
use lib.ListN.{length, take, drop}
use lib.Dec.{eqb, leb}
use borrow.Author.Tests.{ne_eqb, le-leb, lt-leb, leb-true, eqb-false}
use borrow.Rule.Slice.PartMut.{mid_of, put_mid}
use Rattle.wire.specs.Laid.{laid, row}
use Rattle.wire.specs.Tests.{pick}
use Rattle.wire.proofs.Tests.{both_true}
use Rattle.wire.proofs.Rows.{Ran, ran_at, row_start, row_turn}
use Rattle.cases.specs.Cases.{reading_of}
use Rattle.cut.specs.Cut.{case_length, whole}
use Rattle.cut.proofs.Cut.{cases_few}
use Rattle.cut.proofs.Walk.{At, at_start, at_lent, at_step}
use Rattle.sheet.specs.Words.{Reading, SheetAnswer}
use Rattle.sheet.specs.Sheet.{case_at, cases_in, entry_bytes, ruled_one, ruled_in, whole_cases, sheet_refusal_of, refused_whole, ruled_whole, sheet_of}
use Rattle.sheet.proofs.Entries.{entry_most, one_most}

-- ---- the tests 10 and 11
module _ (s : List ℕ) (room : ℕ) where
  refused_for : (n : ℕ) → sheet_refusal_of s room ≡ n → (n ≡ 0 → ⊥) → sheet_of s room ≡ refused_whole n
  unfolding sheet_of
  refused_for n e h = simp (e, ne_eqb n 0 h)

  pub sheet_refused : whole_cases s ≡ false → sheet_of s room ≡ refused_whole 10
  unfolding sheet_refusal_of
  sheet_refused h = refused_for 10 (simp h) (eqb-false 10 0 refl)

  module _ (whole : whole_cases s ≡ true) where
    pub sheet_room : room < cases_in s * 96 → sheet_of s room ≡ refused_whole 11
    unfolding sheet_refusal_of
    sheet_room l = refused_for 11 (simp (whole, lt-leb (cases_in s * 96) room l)) (eqb-false 11 0 refl)

    pub sheet_ruled : cases_in s * 96 ≤ room → sheet_of s room ≡ ruled_whole s (cases_in s)
    unfolding sheet_of sheet_refusal_of
    sheet_ruled l = simp (whole, le-leb (cases_in s * 96) room l)

-- a sheet that passes the test 10 is whole, has 52,800 bytes at most, and so 600 cases
pub whole_cut : (s : List ℕ) → whole_cases s ≡ true → whole s ≡ true
unfolding whole_cases
whole_cut s h = (both_true (whole s) (leb (length s) 52800) h).0

pub whole_length : (s : List ℕ) → whole_cases s ≡ true → length s ≤ 52800
unfolding whole_cases
whole_length s h = leb-true (length s) 52800 (both_true (whole s) (leb (length s) 52800) h).1

pub whole_few : (s : List ℕ) → whole_cases s ≡ true → cases_in s ≤ 600
whole_few s h = omega (arith, cases_few s, whole_length s h)

-- ---- the loop over the cases: what holds at its head, with i cases done, where a case adds f k of its reading, of m bytes at most, from the
-- place `start` on
module _ (start : ℕ) (f : ℕ → Reading → List ℕ) (m : ℕ) where
  abbrev pub added : List ℕ → ℕ → List ℕ
  added s k = f k (reading_of (case_at s k))

  pub record Turn (s out₀ out : List ℕ) (i from at ruled : ℕ) : Type 0 where
    pub walked : At s i from
    pub ran : Ran (take start out₀ ++ row (added s) i) out₀ at out
    pub counted : ruled ≡ ruled_in s i
    pub most : at ≤ start + i * m
    pub few : ruled ≤ i
    pub same : length out ≡ length out₀

  pub first : (s out : List ℕ) → start ≤ length out → Turn s out out 0 0 start 0
  unfolding ruled_in
  first s out h =
      record { walked = at_start s; ran = row_start (take start out) (added s) out out start (ran_at start out h); counted = refl; most = omega arith; few = omega arith; same = refl }

-- a turn: what case i adds goes into the part of the buffer from its place on
module _ (start : ℕ) (f : ℕ → Reading → List ℕ) (m : ℕ) (short : (k : ℕ) (r : Reading) → length (f k r) ≤ m)
    (s out₀ out ys : List ℕ) (i from at ruled step bytes one : ℕ) (t : Turn start f m s out₀ out i from at ruled) (more : i < cases_in s)
    (length-is : step ≡ case_length (drop from s)) where
  -- the part of the sheet that is lent for the turn is case i
  lent : take (from + step - from) (drop from s) ≡ case_at s i
  lent = at_lent s i from step t.walked more length-is

  pub next : (bytes ≡ length (f i (reading_of (take (from + step - from) (drop from s))))) × (one ≡ ruled_one (reading_of (take (from + step - from) (drop from s)))) × (ys ≡ laid (f i (reading_of (take (from + step - from) (drop from s)))) (mid_of at (length out - at) out))
      → length (put_mid at (length out - at) out ys) ≡ length out
      → Turn start f m s out₀ (put_mid at (length out - at) out ys) (i + 1) (from + step) (at + bytes) (ruled + one)
  unfolding ruled_in
  next e same =
      let r = reading_of (case_at s i) in
      let b : bytes ≡ length (f i r) = rw lent at e.0 in
      let o : one ≡ ruled_one r = rw lent at e.1 in
      let y : ys ≡ laid (f i r) (mid_of at (length out - at) out) = rw lent at e.2 in
      record {
        walked = at_step s i from step t.walked more length-is;
        ran = row_turn (take start out₀) (added start f m s) out₀ out ys i at bytes t.ran b y;
        counted = rw add-one (cc);
        most = rw (add-one, suc-mul) (omega (arith, short i r));
        few = omega (arith, one_most i r);
        same = same ∙ t.same;
      }

-- the bounds that a turn's sums ask
pub bytes_most : (b k : ℕ) (r : Reading) → b ≡ length (entry_bytes k r) → b ≤ 96
bytes_most b k r e = omega (arith, entry_most k r)

pub few_more : (b : ℕ) (r : Reading) → b ≡ ruled_one r → b ≤ 1
few_more b r e = omega (arith, one_most 0 r)

-- ---- a sheet that is not refused whole is the row of its cases
pub answered : (s : List ℕ) (room : ℕ) → (sheet_of s room).0.refusal ≡ 0 → sheet_of s room ≡ ruled_whole s (cases_in s)
unfolding sheet_of
answered s room e = by_test (eqb (sheet_refusal_of s room) 0) refl e where
  by_test : (b : Bool) → eqb (sheet_refusal_of s room) 0 ≡ b
      → (pick {A = SheetAnswer × List ℕ} b (ruled_whole s (cases_in s)) (refused_whole (sheet_refusal_of s room))).0.refusal ≡ 0
      → pick {A = SheetAnswer × List ℕ} b (ruled_whole s (cases_in s)) (refused_whole (sheet_refusal_of s room)) ≡ ruled_whole s (cases_in s)
  by_test true h z = refl
  by_test false h z = absurd (eqb-false (sheet_refusal_of s room) 0 h z)
