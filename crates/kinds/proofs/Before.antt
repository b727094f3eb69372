-- A case of 88 bytes is answered as before: every test says the same of it, and its ruling is the old one.
use Prim.Native.Nat.{ℕ}
use mathlib.Core.Path.{◌≡◌, refl, ap, ◌∙◌}
use mathlib.Core.Bool.{Bool, true, false, ◌&&◌, and-true, and-false, or-false}
use mathlib.Core.List.{List}
use lib.ListN.{length}
use lib.Dec.{eqb}
use borrow.Author.Tests.{ne_eqb, eqb-true, eqb-false}
use Rattle.wire.specs.Numbers.{number_at}
use Rattle.wire.specs.Tests.{pick}
use Rattle.forms.specs.Heads.{pairs, is_length, known}
use Rattle.forms.specs.Forms.{differential_of}
use Rattle.forms.proofs.Heads.{form_one}
use Rattle.record.specs.Record.{facts_of}
use Rattle.refusals.specs.Tests.{length_ok, head_ok, differential_ok, prices_ok}
use Rattle.cases.specs.Cases.{refusal_of, reading_of}
use Rattle.cases.proofs.Laws.{read_number, accepted_at_lem}
use Rattle.theory.specs.Theory.{too_wide}
use Rattle.notices.specs.Records.{answer_bytes}
use Rattle.answer.specs.Answer.{case_refusal_of, answer_of, case_of}
use Rattle.sheet.specs.Sheet.{refusal_bytes, entry_bytes}
use Rattle.kinds.specs.Words.{One, Ruling}
use Rattle.kinds.specs.Before.{length_before, head_before, prices_before, case_number_before, case_before, number_before, answer_before, entry_before}
use Rattle.kinds.proofs.Rulings.{ruling_before_lem}

-- ---- the tests
-- the pair of 88 bytes is (88, 1)
pair_before : (size kind : ℕ) → (known size kind && eqb size 88) ≡ (eqb size 88 && eqb kind 1)
unfolding known pairs
pair_before size kind = by_test (eqb size 88) refl where
  by_test : (b : Bool) → eqb size 88 ≡ b → (known size kind && b) ≡ (b && eqb kind 1)
  by_test true h = and-true (known size kind) ∙ simp (eqb-true size 88 h) (or-false (eqb kind 1))
  by_test false h = and-false (known size kind)

module _ (s : List ℕ) (long : length s ≡ 88) where
  head_same : head_ok s ≡ head_before s
  unfolding head_ok
  head_same = ap (λ (n : ℕ). known (number_at 2 s 0) (number_at 2 s 2) && eqb (number_at 2 s 0) n) long ∙ pair_before (number_at 2 s 0) (number_at 2 s 2)

  length_same : length_ok s ≡ length_before s
  unfolding is_length pairs
  length_same = rw long

  one : (facts_of s).form ≡ One
  unfolding facts_of
  one = form_one s long

  prices_same : prices_ok (facts_of s) ≡ prices_before (facts_of s)
  unfolding prices_ok
  prices_same = ap (λ form. prices_before (facts_of s) && differential_ok (differential_of form)) one ∙ and-true (prices_before (facts_of s))

  pub number_same : refusal_of s ≡ number_before s
  unfolding refusal_of
  number_same = rw (length_same, head_same, prices_same)

  case_number_same : (room : ℕ) → case_refusal_of s room ≡ case_number_before s room
  unfolding case_refusal_of
  case_number_same room = rw (length_same, head_same, prices_same)

  -- ---- the answer
  answer_same : answer_of (facts_of s) ≡ answer_before (facts_of s)
  unfolding answer_of
  answer_same =
      ap (λ (r : Ruling). answer_bytes r (facts_of s).buyer.code (facts_of s).seller.code)
      (ruling_before_lem (facts_of s) (ap (λ form. too_wide form (facts_of s).market) one))

  pub case_before_lem : (room : ℕ) → case_of s room ≡ case_before s room
  unfolding case_of case_before
  case_before_lem room = rw (case_number_same room, answer_same)

  pub entry_before_lem : (index : ℕ) → entry_bytes index (reading_of s) ≡ entry_before index s
  unfolding entry_bytes entry_before
  entry_before_lem index = by_test (eqb (number_before s) 0) refl where
    by_test : (b : Bool) → eqb (number_before s) 0 ≡ b
        → entry_bytes index (reading_of s) ≡ pick b (answer_before (facts_of s)) (refusal_bytes index (number_before s))
    by_test true h =
        ap (entry_bytes index) (accepted_at_lem s (number_same ∙ eqb-true (number_before s) 0 h)) ∙ answer_same
    by_test false h = rw (read_number s, number_same, h)

-- any other length but 92 is refused with 1, as it was
pub other_before : (s : List ℕ) (room : ℕ) → (length s ≡ 88 → ⊥) → (length s ≡ 92 → ⊥) → case_of s room ≡ case_before s room
unfolding case_of case_before case_refusal_of is_length pairs
other_before s room a b = simp (ne_eqb (length s) 88 a, ne_eqb (length s) 92 b)

pub as_before : (s : List ℕ) (room : ℕ) → (length s ≡ 92 → ⊥) → case_of s room ≡ case_before s room
as_before s room b = by_test (eqb (length s) 88) refl where
  by_test : (t : Bool) → eqb (length s) 88 ≡ t → case_of s room ≡ case_before s room
  by_test true h = case_before_lem s (eqb-true (length s) 88 h) room
  by_test false h = other_before s room (eqb-false (length s) 88 h) b
