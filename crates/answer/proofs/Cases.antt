-- What ruling a case answers, by the test that decides.
use Prim.Native.Nat.{ℕ, ◌≤◌, ◌<◌}
use mathlib.Core.Path.{◌≡◌, refl, sym, ◌∙◌}
use mathlib.Core.Bool.{true, false}
use mathlib.Core.List.{List, []}
use lib.ListN.{length}
use borrow.Author.Tests.{le-leb, lt-leb, eq-eqb, ne_eqb, eqb-false}
use Rattle.record.specs.Record.{facts_of}
use Rattle.refusals.specs.Tests.{length_ok}
use Rattle.cases.specs.Cases.{refusal_of, reading_of}
use Rattle.cases.proofs.Laws.{accepts, formed, passed_form}
use Rattle.ruling.specs.Ruling.{ruling_of}
use Rattle.notices.proofs.Built as built
use Rattle.facts.specs.declared.Facts.{Facts}
use Rattle.answer.specs.Answer.{case_refusal_of, answer_of, case_of}

module _ (s : List ℕ) (room : ℕ) where
  refusing : (n : ℕ) → case_refusal_of s room ≡ n → (n ≡ 0 → ⊥) → case_of s room ≡ (n, [])
  unfolding case_of
  refusing n e h = simp (e, ne_eqb n 0 h)

  -- 1: no kind of case has this length
  pub case_length_lem : length_ok s ≡ false → case_of s room ≡ (1, [])
  unfolding case_refusal_of
  case_length_lem h = refusing 1 (simp h) (eqb-false 1 0 refl)

  -- 11: the buffer is under 96 bytes
  pub case_room : length_ok s ≡ true → room < 96 → case_of s room ≡ (11, [])
  unfolding case_refusal_of
  case_room h k = refusing 11 (simp (h, lt-leb 96 room k)) (eqb-false 11 0 refl)

  -- 2 to 9: the same tests as in reading
  module _ (whole : length_ok s ≡ true) (fits : 96 ≤ room) where
    same_tests : case_refusal_of s room ≡ refusal_of s
    unfolding case_refusal_of refusal_of
    same_tests = simp (whole, le-leb 96 room fits)

    module _ (n : ℕ) (e : n ≡ refusal_of s) where
      as_read : case_refusal_of s room ≡ n
      as_read = same_tests ∙ sym e

      pub case_refused : (n ≡ 0 → ⊥) → case_of s room ≡ (n, [])
      case_refused h = refusing n as_read h

      pub case_ruled : n ≡ 0 → case_of s room ≡ (0, answer_of (facts_of s))
      unfolding case_of
      case_ruled h = simp (eq-eqb (case_refusal_of s room) 0 (as_read ∙ h))

  -- every accepted case is ruled where there is room
  pub accepted_ruled : (reading_of s).refusal ≡ 0 → 96 ≤ room → case_of s room ≡ (0, answer_of (facts_of s))
  accepted_ruled e fits = let z = accepts s e in case_ruled (formed s (passed_form s z)).whole fits (refusal_of s) refl z

-- an answer is 96 bytes
pub answer_length : (f : Facts) → length (answer_of f) ≡ 96
unfolding answer_of
answer_length f = built.answer_length (ruling_of f) f.buyer.code f.seller.code
