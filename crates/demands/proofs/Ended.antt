-- Why calls end as `Ends` says (Demand1, Filled): a number that is given is one of its test's, and what stands in a buffer then. Nothing is promised here.
use Prim.Native.Nat.{ℕ, ◌+◌, ◌-◌, ◌<◌}
use Rattle.std.specs.Prelude.{◌≡◌, Bool, ◌&&◌, ◌⊎◌}
use Rattle.std.proofs.Math.Path.{refl, ap}
use Rattle.std.proofs.Common.{◌∙◌}
use Rattle.std.proofs.Math.Bool.{true, false}
use Rattle.std.proofs.Math.Logic.{inl, inr}
use mathlib.Core.List.{List, [], ◌∷◌, ◌++◌}
use Rattle.std.proofs.Math.ListN.{length}
use Rattle.std.proofs.Math.Dec.{leb, eqb}
use borrow.Author.Tests.{eqb-true, eqb-false}
use Rattle.wire.specs.Laid.{laid}
use Rattle.wire.proofs.Tests.{either, none_fails}
use Rattle.record.specs.Record.{facts_of}
use Rattle.refusals.specs.Tests.{zeros_ok, lists_ok, form_tests, fact_tests}
use Rattle.cases.specs.Cases.{refusal_of, reading_of}
use Rattle.cases.proofs.Laws.{case_passes, read_number, passed_facts}
use Rattle.answer.specs.Answer.{answer_of}
use Rattle.answer.proofs.Cases.{answer_length}
use Rattle.cut.proofs.Laws.{case_is}
use Rattle.sheet.specs.Sheet.{case_at, cases_in, refusal_bytes, entry_bytes, whole_cases}
use Rattle.lines.specs.Lines.{refused_line}
use Rattle.report.specs.Report.{case_line, line_of}
use Rattle.round_trips.proofs.Again.{sound}
use Rattle.quotes.specs.Quotes.{whole_quotes, quotes_refusal_of, list_tests}
use Rattle.filling.specs.Filling.{found_for, fill_refusal_of, filling_of}
use Rattle.best.proofs.Own.{found_number}
use Rattle.filling.proofs.Answers.{number_told}
use Rattle.lookups.proofs.Again.{refused_kept, fill_bytes}
use Rattle.lookups.proofs.Filled.{filled_length, filled_outside}
use Rattle.fillings.specs.Fillings.{fill_number, fill_sheet_refusal_of}
use Rattle.demands.specs.Ends.{read_numbers, entry_numbers, fill_numbers, OneOf, Told, Answered, Ended, FillEnded, Entered}
use Rattle.demands.specs.Why.{told, other}

-- and written into the buffer
pub ended : (size : ℕ) (numbers : List ℕ) (a : ℕ × List ℕ) (n : ℕ) (l m : List ℕ) → Answered size numbers (length l) a
    → (n ≡ a.0) × (m ≡ laid a.1 l) → Ended size numbers n l m
unfolding laid
ended size numbers a n l m (inl e) p = inl (p.0 ∙ e.0, e.1, (a.1, e.2, p.1))
ended size numbers a n l m (inr e) p = inr (rw p.0 e.0, p.1 ∙ ap (λ (w : List ℕ). laid w l) e.1)

-- ---- a case of a sheet, which passes the tests 1 and 2, by the number that reading it gives
module _ (s : List ℕ) (k : ℕ) (within : k < cases_in s) where
  abbrev c : List ℕ
  c = case_at s k

  abbrev n : ℕ
  n = (reading_of c).refusal

  entry_told : Told entry_numbers n
  unfolding refusal_of
  entry_told = let is = case_passes c (case_is s k within) in rw (read_number c) (simp (is.0, is.1) (told ((3, zeros_ok c && lists_ok c) ∷ fact_tests (facts_of c))))

  abbrev As : List ℕ → Type 0
  As w = ((n ≡ 0) × (w ≡ answer_of (reading_of c).facts) × (length w ≡ 96)) ⊎ (OneOf entry_numbers n × (w ≡ refusal_bytes k n) × (length w ≡ 12))

  pub entered : Entered s k
  unfolding entry_bytes refusal_bytes
  entered = either As (eqb n 0) _ _ (λ h. inl (eqb-true n 0 h, refl, answer_length (reading_of c).facts)) (λ h. inr (other entry_numbers n entry_told h, refl, refl))

-- its printed line likewise: a refused one tells one of the same numbers
module _ (s : List ℕ) (k : ℕ) (within : k < cases_in s) where
  abbrev r : ℕ
  r = (reading_of (case_at s k)).refusal

  abbrev Line : List ℕ → Type 0
  Line w = (r ≡ 0) ⊎ (OneOf entry_numbers r × (w ≡ refused_line k r))

  pub line_entered : Line (line_of s k)
  unfolding case_line
  line_entered = either Line (eqb r 0) _ _ (λ h. inl (eqb-true r 0 h)) (λ h. inr (other entry_numbers r (entry_told s k within) h, refl))

-- ---- a case filled
told_more : (ms ns : List ℕ) (n : ℕ) → Told ms n → Told (ms ++ ns) n
told_more ms ns n (inl e) = inl e
told_more [] ns n (inr o) = absurd o
told_more (m ∷ ms) ns n (inr (inl e)) = inr (inl e)
told_more (m ∷ ms) ns n (inr (inr o)) = after (told_more ms ns n (inr o)) where
  after : Told (ms ++ ns) n → Told (m ∷ (ms ++ ns)) n
  after (inl e) = inl e
  after (inr o) = inr (inr o)

told_after : (ms ns : List ℕ) (n : ℕ) → Told ns n → Told (ms ++ ns) n
told_after [] ns n t = t
told_after (m ∷ ms) ns n t = after (told_after ms ns n t) where
  after : Told (ms ++ ns) n → Told (m ∷ (ms ++ ns)) n
  after (inl e) = inl e
  after (inr o) = inr (inr o)

-- the quotes' number at a time of day
list_told : (q : List ℕ) (t : ℕ) → leb t 86399 ≡ true → Told (20 ∷ 21 ∷ 22 ∷ []) (quotes_refusal_of q t)
unfolding quotes_refusal_of
list_told q t h = simp h (told ((20, whole_quotes q) ∷ list_tests q))

module _ (q s : List ℕ) where
  fill_told : Told fill_numbers (fill_refusal_of q s)
  unfolding fill_refusal_of refusal_of
  fill_told =
      either (Told fill_numbers) (eqb (refusal_of s) 0) (found_for q s).refusal (refusal_of s)
      (λ e. rw (found_number q (facts_of s).trade.executed.0)
      (told_after read_numbers (20 ∷ 21 ∷ 22 ∷ []) _ (list_told q (facts_of s).trade.executed.0 (sound (facts_of s) (passed_facts s (eqb-true (refusal_of s) 0 e))).executed)))
      (λ e. told_more read_numbers (20 ∷ 21 ∷ 22 ∷ []) (refusal_of s) (told (form_tests s ++ fact_tests (facts_of s))))

  pub fill_ended : FillEnded (filling_of q s).0 s (filling_of q s).1
  fill_ended = by_test (eqb (filling_of q s).0 0) refl where
    by_test : (b : Bool) → eqb (filling_of q s).0 0 ≡ b → FillEnded (filling_of q s).0 s (filling_of q s).1
    by_test true h =
        let done = eqb-true (filling_of q s).0 0 h in
        inl (
          done,
          rw (fill_bytes q s done) (filled_length s (found_for q s).bid (found_for q s).offer),
          rw (fill_bytes q s done) (filled_outside s (found_for q s).bid (found_for q s).offer),
        )
    by_test false h =
        inr
        (other fill_numbers (filling_of q s).0 (rw (number_told q s) fill_told) h, refused_kept q s (eqb-false (filling_of q s).0 0 h))

-- a case of it that is left has one of the numbers of an entry: the quotes were tested with the sheet
pub left_told : (q s : List ℕ) (k : ℕ) → fill_sheet_refusal_of q s ≡ 0 → k < cases_in s → Told entry_numbers (fill_number q s k)
unfolding fill_sheet_refusal_of fill_refusal_of quotes_refusal_of
left_told q s k good within =
    let c = case_at s k in
    let quotes = (none_fails (whole_cases s) 10 _ tt good).1 in
    rw (number_told q c)
    (either (Told entry_numbers) (eqb (refusal_of c) 0) (found_for q c).refusal (refusal_of c)
    (λ e.
    let time = (sound (facts_of c) (passed_facts c (eqb-true (refusal_of c) 0 e))).executed in
    inl (found_number q (facts_of c).trade.executed.0 ∙ simp time quotes))
    (λ e. rw (read_number c) at (entry_told s k within)))
