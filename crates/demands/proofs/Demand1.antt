-- Demand 1 (RULE R13.0.1), where it rests on the numbers and ways of `Ends`: with specs/Demand1.antt, which says how this is to be read.
use Rattle.std.specs.Prelude.{ℕ, ◌<◌, ◌≡◌, ◌⊎◌, List, ◌++◌, length}
use contract.Lifetimes.{Lfts}
use Rattle.std.specs.Borrow.{Bor, MutBor}
use Rattle.forms.specs.Forms.{form_length}
use Rattle.record.specs.Record.{facts_of}
use Rattle.refusals.specs.Tests.{form_tests, fact_tests}
use Rattle.cases.specs.Words.{Facts}
use Rattle.cases.specs.declared.Reading.{Reading}
use Rattle.cases.specs.Cases.{refusal_of, reading_of}
use Rattle.fillings.specs.Fillings.{fill_number, fill_sheet_refusal_of}
use Rattle.cases.proofs as cases
use Rattle.answer.proofs as answer
use Rattle.sheet.specs.Sheet.{case_at, cases_in}
use Rattle.lines.specs.Lines.{refused_line}
use Rattle.report.specs.Report.{line_of}
use Rattle.desk.proofs as desk
use Rattle.demands.specs.Ends.{read_numbers, write_numbers, case_numbers, entry_numbers, OneOf, Told, Ended, Entered}
use Rattle.demands.specs.Why as why
use Rattle.demands.specs.Demand1.{write_answered, case_answered}
use Rattle.demands.proofs.Ended as end

-- ---- a case read

-- Any bytes are accepted, or refused with one of 1 to 9.
pub read_told : (s : List ℕ) → Told read_numbers (refusal_of s)
unfolding refusal_of
read_told s = why.told (form_tests s ++ fact_tests (facts_of s))

-- So every call of `check_case`, `read_case` and `desk_check_case`.
module _ (κ : Lfts 1) (s s' : Bor (List ℕ)) where
  pub check_case_ends : (r : ℕ) → cases.check_case.Reads.Post κ (s, tt) r (s', tt) → Told read_numbers r
  check_case_ends r p = rw p (read_told s.now)

  pub read_case_ends : (r : Reading) → cases.read_case.Reads.Post κ (s, tt) r (s', tt) → Told read_numbers r.refusal
  read_case_ends r p = rw (p.0, cases.Laws.read_number s.now) (read_told s.now)

  pub desk_check_case_ends : (r : ℕ) → desk.desk_check_case.Reads.Post κ (s, tt) r (s', tt) → Told read_numbers r
  desk_check_case_ends r p = rw p (read_told s.now)

-- ---- a case written
-- So every call of `write_case`.
pub write_case_ends : (κ : Lfts 1) (f f' : Facts) (out out' : MutBor (List ℕ)) (r : ℕ)
    → cases.write_case.Reads.Post κ (f, (out, tt)) r (f', (out', tt)) → Ended (form_length f.form) write_numbers r out.now out'.now
write_case_ends κ f f' out out' r p = end.ended (form_length f.form) write_numbers _ r _ _ (write_answered f (length out.now)) (p.0, p.1)

-- ---- a case ruled
-- So every call of `rule_case` and `desk_rule_case`.
module _ (κs : Lfts 2) (s s' : Bor (List ℕ)) (out out' : MutBor (List ℕ)) (r : ℕ) where
  pub rule_case_ends : answer.rule_case.Reads.Post κs (s, (out, tt)) r (s', (out', tt)) → Ended 96 case_numbers r out.now out'.now
  rule_case_ends p = end.ended 96 case_numbers _ r _ _ (case_answered s.now (length out.now)) p

  pub desk_rule_case_ends : desk.desk_rule_case.Reads.Post κs (s, (out, tt)) r (s', (out', tt)) → Ended 96 case_numbers r out.now out'.now
  desk_rule_case_ends p = end.ended 96 case_numbers _ r _ _ (case_answered s.now (length out.now)) p

-- ---- a sheet
-- Each case of a sheet gets the 96 bytes of its answer or, where it is bad, one refusal record of 12 bytes, with its index and one of 3 to 9.
pub entries : (s : List ℕ) (k : ℕ) → k < cases_in s → Entered s k
entries = end.entered

-- Its printed line tells a refused one by its index and one of the same numbers, and so does filling a sheet of a case that it leaves: the
-- quotes have been tested with the sheet.
pub lines_entered : (s : List ℕ) (k : ℕ) → k < cases_in s
    → ((reading_of (case_at s k)).refusal ≡ 0) ⊎ (OneOf entry_numbers (reading_of (case_at s k)).refusal × (line_of s k ≡ refused_line k (reading_of (case_at s k)).refusal))
lines_entered = end.line_entered

pub left_told : (q s : List ℕ) (k : ℕ) → fill_sheet_refusal_of q s ≡ 0 → k < cases_in s → Told entry_numbers (fill_number q s k)
left_told = end.left_told
