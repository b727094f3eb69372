-- Two sheets that differ in one case: what is written before its entry and after it is the same. Demand 3 on sheets: where one party of one case differs
-- and the case is accepted both times, only that case's answer does.
use Prim.Native.Nat.{ℕ, zero, suc, ◌+◌, ◌-◌, ◌<◌}
use mathlib.Core.Path.{◌≡◌, refl, sym, ap, ◌∙◌}
use mathlib.Core.Bool.{Bool, true, false}
use mathlib.Core.List.{List, [], ◌++◌}
use mathlib.Core.Logic.{inl, inr}
use native.Mathlib.Omega.{arith}
use lib.ListN.{length, get_or, set, get_or-eq_default}
use lib.Dec.{eqb, ltb}
use borrow.Author.Tests.{eqb-true, eqb-false, ltb-true, ltb-false}
use Rattle.wire.specs.Laid.{row}
use Rattle.wire.proofs.Rows.{row_same, row_split}
use Rattle.facts.specs.declared.Side.{Side}
use Rattle.record.specs.Record.{facts_of}
use Rattle.cases.specs.Cases.{reading_of}
use Rattle.cases.proofs.Laws.{accepted_reading}
use Rattle.cut.specs.Cut.{IsCase, cut, together, SameButIn}
use Rattle.cut.proofs.First.{case_low}
use Rattle.cut.proofs.Laws.{case_is, changed_many, changed_else}
use Rattle.cut.proofs.Alike.{case_byte, alike_whole, alike_many, alike_else, alike_long, alike_byte}
use Rattle.answer.specs.Answer.{answer_of}
use Rattle.alike.specs.Cases.{Outside, AlikeBut}
use Rattle.alike.proofs.Cases.{from_48, to_64, blind}
use Rattle.alike.specs.Words.{Reading}
use Rattle.sheet.specs.Sheet.{start_of, case_at, cases_in, entry_bytes, ruled_one, entry_of, ruled_in, whole_cases, sheet_of}
use Rattle.alike.specs.Sheets.{ButOne, earlier, later, OnlyEntry, OutsideIn, AlikeButOne, OnlyCase}
use Rattle.sheet.proofs.Entries.{entry_ruled, one_ruled}
use Rattle.sheet.proofs.Whole.{same_answer, each_by_itself}

-- ---- in one case

-- another case in the place of case j; and bytes that differ only in case j, after its head
pub changed : (s : List ℕ) (j : ℕ) (d : List ℕ) → IsCase d → j < cases_in s → ButOne s (together (set (cut s).cases j d)) j
changed s j d is l = record { within = l; many = changed_many s j d is; others = changed_else s j d is }

pub differs : (s t : List ℕ) (j : ℕ) → j < cases_in s → SameButIn s t j → ButOne s t j
differs s t j l a = record { within = l; many = alike_many s t j l a; others = alike_else s t j l a }

-- the row of s, cut around case j
around : (s : List ℕ) (n j : ℕ) → j < n → row (entry_of s) n ≡ row (entry_of s) j ++ (entry_of s j ++ row (λ k. entry_of s (suc j + k)) (n - suc j))
around s n j h = ap (row (entry_of s)) (let k : n ≡ suc j + (n - suc j) = omega arith in k) ∙ row_split (entry_of s) j (n - suc j)

module _ (s t : List ℕ) (j : ℕ) (a : ButOne s t j) where
  -- an entry of another case is the same
  entry_same : (k : ℕ) → (k ≡ j → ⊥) → entry_of t k ≡ entry_of s k
  entry_same k d = ap (λ (c : List ℕ). entry_bytes k (reading_of c)) (a.others k d)

  other : row (entry_of t) (cases_in t) ≡ earlier s j ++ (entry_of t j ++ later s j)
  other =
      ap (row (entry_of t)) a.many
      ∙ around t (cases_in s) j a.within
      ∙ ap (λ (w : List ℕ). w ++ (entry_of t j ++ row (λ k. entry_of t (suc j + k)) (cases_in s - suc j)))
      (row_same (entry_of t) (entry_of s) j (λ k l. entry_same k (λ d. omega arith)))
      ∙ ap (λ (w : List ℕ). earlier s j ++ (entry_of t j ++ w))
      (row_same (λ k. entry_of t (suc j + k)) (λ k. entry_of s (suc j + k)) (cases_in s - suc j) (λ k l. entry_same (suc j + k) (λ d. omega arith)))

  pub only_entry : (room room' : ℕ) → (sheet_of s room).0.refusal ≡ 0 → (sheet_of t room').0.refusal ≡ 0 → OnlyEntry s t j (sheet_of s room).1 (sheet_of t room').1
  only_entry room room' e e' = record { first = each_by_itself s room e ∙ around s (cases_in s) j a.within; second = each_by_itself t room' e' ∙ other }

-- the entry of an accepted case is its answer
accepted_entry : (s : List ℕ) (j : ℕ) → (reading_of (case_at s j)).refusal ≡ 0 → entry_of s j ≡ answer_of (facts_of (case_at s j))
accepted_entry s j e = entry_ruled j (reading_of (case_at s j)) e ∙ ap (λ (r : Reading). answer_of r.facts) (accepted_reading (case_at s j) e)

-- cases that count alike are as many
ruled_same : (s t : List ℕ) (n : ℕ) → ((k : ℕ) → k < n → ruled_one (reading_of (case_at s k)) ≡ ruled_one (reading_of (case_at t k))) → ruled_in s n ≡ ruled_in t n
unfolding ruled_in
ruled_same s t zero h = refl
ruled_same s t (suc n) h =
    let before = ruled_same s t n (λ k l. h k (omega arith)) in
    let one = h n (omega arith) in
    cc

-- ---- in one party of it
module _ (who : Side) (s t : List ℕ) (j : ℕ) (a : AlikeButOne who s t j) where
  abbrev within : j < cases_in s
  within = a.within

  -- the party's bytes lie in case j, after its head
  inside : SameButIn s t j
  inside =
      let low = case_low (case_at s j) [] (case_is s j within) in
      record {
        long = sym a.long;
        front = λ i h. sym (a.same i (inl (omega (arith, from_48 who))));
        back = λ i h. sym (a.same i (inr (omega (arith, to_64 who))));
      }

  but_one : ButOne s t j
  but_one = differs s t j within inside

  taken_alike : whole_cases t ≡ whole_cases s
  unfolding whole_cases
  taken_alike = rw (alike_whole s t j within inside, a.long)

  case_alike : AlikeBut who (case_at s j) (case_at t j)
  case_alike i o = by_test (ltb i (length (case_at s j))) refl where
    place : Outside who i → OutsideIn who s j (start_of s j + i)
    place (inl h) = inl (omega arith)
    place (inr h) = inr (omega arith)

    by_test : (b : Bool) → ltb i (length (case_at s j)) ≡ b → get_or (case_at s j) i 0 ≡ get_or (case_at t j) i 0
    by_test true e =
        let m = ltb-true i (length (case_at s j)) e in
        case_byte s j within i m ∙ a.same (start_of s j + i) (place o) ∙ sym (alike_byte s t j within inside i m)
    by_test false e =
        let m = ltb-false i (length (case_at s j)) e in
        get_or-eq_default (case_at s j) 0 (omega arith) ∙ sym (get_or-eq_default (case_at t j) 0 (omega (arith, alike_long s t j within inside)))

  -- case j counts one in both, and every other case what it counts in the other sheet
  one_same : (k : ℕ) → k < cases_in s → ruled_one (reading_of (case_at s k)) ≡ ruled_one (reading_of (case_at t k))
  one_same k l = by_test (eqb k j) refl where
    by_test : (b : Bool) → eqb k j ≡ b → ruled_one (reading_of (case_at s k)) ≡ ruled_one (reading_of (case_at t k))
    by_test true e =
        let same = eqb-true k j e in
        ap (λ (i : ℕ). ruled_one (reading_of (case_at s i))) same ∙ one_ruled (reading_of (case_at s j)) a.first
        ∙ sym (ap (λ (i : ℕ). ruled_one (reading_of (case_at t i))) same ∙ one_ruled (reading_of (case_at t j)) a.second)
    by_test false e = ap (λ (c : List ℕ). ruled_one (reading_of c)) (sym (but_one.others k (eqb-false k j e)))

  -- the whole answer is the same, whatever the room
  pub blind_answer : (room : ℕ) → (sheet_of t room).0 ≡ (sheet_of s room).0
  blind_answer room = same_answer s t room taken_alike but_one.many (ruled_same s t (cases_in s) one_same)

  -- and of the bytes only those of case j differ
  pub only_case : (room : ℕ) → (sheet_of s room).0.refusal ≡ 0 → OnlyCase who s t j (sheet_of s room).1 (sheet_of t room).1
  only_case room e =
      let o = only_entry s t j but_one room room e (ap (λ r. r.refusal) (blind_answer room) ∙ e) in
      record {
        first = o.first ∙ ap (λ (w : List ℕ). earlier s j ++ (w ++ later s j)) (accepted_entry s j a.first);
        second = o.second ∙ ap (λ (w : List ℕ). earlier s j ++ (w ++ later s j)) (accepted_entry t j a.second);
        blind = blind who (case_at s j) (case_at t j) (alike_long s t j within inside) case_alike a.untold;
      }
