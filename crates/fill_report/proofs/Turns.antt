-- The loop over the cases: what holds at its head, with i cases done, and what a turn adds.
use Prim.Native.Nat.{ℕ, ◌+◌, ◌-◌, ◌*◌, ◌≤◌, ◌<◌, zero-le}
use mathlib.Core.Path.{◌≡◌, refl, ◌∙◌}
use mathlib.Core.List.{List, []}
use native.Mathlib.Numerals.{add-one}
use native.Mathlib.Nat.{suc-mul}
use native.Mathlib.Omega.{arith}
use lib.ListN.{length, take, drop}
use borrow.Rule.Slice.PartMut.{mid_of, put_mid}
use Rattle.wire.specs.Laid.{row}
use Rattle.wire.proofs.Rows.{Ran, ran_at, row_start, row_turn}
use Rattle.cut.specs.Cut.{case_length}
use Rattle.cut.proofs.Walk.{At, at_start, at_lent, at_step}
use Rattle.sheet.specs.Sheet.{cases_in}
use Rattle.filling.specs.Filling.{filling_of, fill_read_of}
use Rattle.fillings.specs.Fillings.{fill_number, filled_one, filled_in, case_read, read_in}
use Rattle.fill_report.specs.Told.{told}
use Rattle.fill_report.proofs.Lines.{Tells}

pub record Turn (q s out₀ out : List ℕ) (i from at filled read : ℕ) : Type 0 where
  pub walked : At s i from
  pub ran : Ran (row (told q s) i) out₀ at out
  pub counted : filled ≡ filled_in q s i
  pub summed : read ≡ read_in q s i
  pub most : at ≤ i * 118
  pub few : filled ≤ i
  pub least : read ≤ i * 2000
  pub same : length out ≡ length out₀

pub first : (q s out : List ℕ) → Turn q s out out 0 0 0 0 0
unfolding filled_in read_in
first q s out =
    record { walked = at_start s; ran = row_start [] (told q s) out out 0 (ran_at 0 out zero-le); counted = refl; summed = refl; most = zero-le; few = omega arith; least = zero-le; same = refl }

-- a turn: what is said of case i goes into the part of the buffer from its place on
pub next : (q s out₀ out ys : List ℕ) (i from at filled read step bytes one more-read : ℕ) → Turn q s out₀ out i from at filled read → i < cases_in s
    → step ≡ case_length (drop from s)
    → Tells i (filling_of q (take (from + step - from) (drop from s))).0 (mid_of at (length out - at) out) ys bytes one
    → more-read ≡ fill_read_of q (take (from + step - from) (drop from s)) → (bytes ≤ 118) × (one ≤ 1) × (more-read ≤ 2000)
    → length (put_mid at (length out - at) out ys) ≡ length out
    → Turn q s out₀ (put_mid at (length out - at) out ys) (i + 1) (from + step) (at + bytes) (filled + one) (read + more-read)
unfolding filled_in read_in
next q s out₀ out ys i from at filled read step bytes one more-read t more long e er short same =
    let lent = at_lent s i from step t.walked more long in
    let f : Tells i (fill_number q s i) (mid_of at (length out - at) out) ys bytes one = rw lent at e in
    let o : one ≡ filled_one (fill_number q s i) = f.1 in
    let r : more-read ≡ case_read q s i = rw lent at er in
    record {
      walked = at_step s i from step t.walked more long;
      ran = row_turn [] (told q s) out₀ out ys i at bytes t.ran f.0 f.2;
      counted = rw add-one (cc);
      summed = rw add-one (cc);
      most = rw (add-one, suc-mul) (omega arith);
      few = omega arith;
      least = rw (add-one, suc-mul) (omega arith);
      same = same ∙ t.same;
    }
