-- Demand 1 (RULE R13.0.1): every byte string brought as a case or a sheet gets a ruling or a numbered refusal, and no caller tests anything first. A
-- refused call returns its number and writes nothing; a bad case in a good sheet gets one refusal record.
-- First what the definitions answer, then, as "so every call", what the promises of the functions allow. `crate.function.Reads.Post` is a
-- promise as Rattle reads it from the contract in the source: of the arguments, the answer, and the arguments afterwards; `Asked` is what
-- the function asks of its caller. `Ends` says in which ways a call ends; what rests on its lists of numbers and ways stands in proofs/Demand1.antt.
use Rattle.std.specs.Prelude.{ℕ, ◌≤◌, ◌≡◌, true, false, List, [], ◌∷◌, ◌++◌, length, leb}
use contract.Lifetimes.{Lfts}
use Rattle.std.specs.Borrow.{Bor, MutBor}
use Rattle.wire.specs.Laid.{laid}
use Rattle.forms.specs.Forms.{form_length}
use Rattle.record.specs.Record.{facts_of, record_bytes}
use Rattle.record.proofs.Lengths.{long_as_form}
use Rattle.refusals.specs.Tests.{fact_tests}
use Rattle.cases.specs.Words.{Facts}
use Rattle.cases.specs.Cases.{write_refusal_of, writing_of}
use Rattle.cases.proofs as cases
use Rattle.ruling.proofs as ruling
use Rattle.answer.specs.Answer.{case_tests, case_refusal_of, case_of}
use Rattle.answer.proofs as answer
use Rattle.sheet.specs.declared.SheetAnswer.{SheetAnswer}
use Rattle.sheet.specs.Sheet.{cases_in, whole_cases, sheet_of}
use Rattle.sheet.proofs as sheet
use Rattle.text.specs.Text.{letters}
use Rattle.lines.specs.Lines.{header, sheet_line}
use Rattle.report.specs.Report.{ruled_text, text_of}
use Rattle.report.proofs as report
use Rattle.desk.specs.declared.DeskSheet.{DeskSheet}
use Rattle.desk.specs.Desk.{desk_sheet}
use Rattle.desk.proofs as desk
use Rattle.demands.specs.Ends.{write_numbers, case_numbers, Answered, SheetAnswered, SheetEnded}
use Rattle.demands.specs.Why as why

-- No caller tests anything first: whatever they are given, the entry points ask nothing beyond their types (the buffer of `print_sheet` has 65,536
-- bytes by its type).
pub nothing_asked : (κ : Lfts 1) (κs : Lfts 2) (s : Bor (List ℕ)) (b : MutBor (List ℕ)) (f : Facts)
    → cases.check_case.Reads.Asked κ (s, tt)
    × cases.read_case.Reads.Asked κ (s, tt)
    × cases.write_case.Reads.Asked κ (f, (b, tt))
    × answer.rule_case.Reads.Asked κs (s, (b, tt))
    × sheet.rule_sheet.Reads.Asked κs (s, (b, tt))
    × report.print_sheet.Reads.Asked κs (s, (b, tt))
    × desk.desk_check_case.Reads.Asked κ (s, tt)
    × desk.desk_rule_case.Reads.Asked κs (s, (b, tt))
    × desk.desk_rule_sheet.Reads.Asked κs (s, (b, tt))
    × desk.desk_print_sheet.Reads.Asked κs (s, (b, tt))
nothing_asked κ κs s b f = (tt, tt, tt, tt, tt, tt, tt, tt, tt, tt)

-- Below them the ruling asks for the 88 bytes that every kind of case has, accepted or not, and for nothing else.
pub rule_asks : (κ : Lfts 1) (s : Bor (List ℕ)) → 88 ≤ length s.now → ruling.rule.Reads.Asked κ (s, tt)
rule_asks κ s h = h

-- ---- a case written

-- Any facts are written in the bytes of their form, or refused with 11 or 4 to 9 and nothing is written.
pub write_answered : (f : Facts) (room : ℕ) → Answered (form_length f.form) write_numbers room (writing_of f room)
unfolding writing_of write_refusal_of
write_answered f room =
    let size = form_length f.form in
    why.answered size room write_numbers _ (record_bytes f) (why.told ((11, leb size room) ∷ fact_tests f)) (why.write_fits f room) (long_as_form f.form f)

-- ---- a case ruled

-- Any bytes are ruled in 96 bytes, or refused with one of 1 to 9 or 11 and nothing is written.
pub case_answered : (s : List ℕ) (room : ℕ) → Answered 96 case_numbers room (case_of s room)
unfolding case_of case_refusal_of
case_answered s room = why.answered 96 room case_numbers _ _ (why.told (case_tests s room)) (why.case_fits s room) (answer.Cases.answer_length (facts_of s))

-- ---- a sheet

-- Any bytes are ruled as a row of cases, or refused whole with 10 or 11: nothing is written, and all counts are 0.
pub sheet_answered : (s : List ℕ) (room : ℕ) → SheetAnswered s room (sheet_of s room)
sheet_answered = why.sheet_answered

-- So every call of `rule_sheet` and `desk_rule_sheet`.
module _ (κs : Lfts 2) (s s' : Bor (List ℕ)) (out out' : MutBor (List ℕ)) where
  pub rule_sheet_ends : (r : SheetAnswer) → sheet.rule_sheet.Reads.Post κs (s, (out, tt)) r (s', (out', tt))
      → SheetEnded (λ a. a) s.now r out.now out'.now
  rule_sheet_ends r p = why.sheet_ended (λ a. a) s.now r _ _ _ (sheet_answered s.now (length out.now)) p

  pub desk_rule_sheet_ends : (r : DeskSheet) → desk.desk_rule_sheet.Reads.Post κs (s, (out, tt)) r (s', (out', tt))
      → SheetEnded desk_sheet s.now r out.now out'.now
  desk_rule_sheet_ends r p = why.sheet_ended desk_sheet s.now r _ _ _ (sheet_answered s.now (length out.now)) p

-- An empty sheet is ruled, whatever the room: nothing is written, and all counts are 0.
pub empty_sheet : (room : ℕ) → sheet_of [] room ≡ (record { refusal = 0; written = 0; ruled = 0; refused = 0 }, [])
empty_sheet = why.empty_sheet

-- ---- the printer

-- Any bytes are printed: whole cases, 52,800 bytes at most, as the header, a line for each case and END; any other bytes as the one line SHEET REFUSED 10
-- (RULE R11.8).
pub text_answered : (s : List ℕ) → (whole_cases s ≡ true → text_of s ≡ ruled_text s (cases_in s)) × (whole_cases s ≡ false → text_of s ≡ sheet_line 10)
text_answered = why.text_answered

-- The header comes first in every report (RULE R11.7), and over an empty sheet too.
pub header_first : (s : List ℕ) → whole_cases s ≡ true → (rest : List ℕ) × (text_of s ≡ header ++ rest)
header_first = why.header_first

pub empty_report : text_of [] ≡ letters "TRADE OUTCOME REASON TP NEW ADJ NUL OLD FROM" ++ (10 ∷ []) ++ letters "END 0 0" ++ (10 ∷ [])
empty_report = why.empty_report

-- No text is longer than the 65,536 bytes of `print_sheet`'s buffer.
pub text_fits : (s : List ℕ) → length (text_of s) ≤ 65536
text_fits = why.text_fits

-- So every call of `print_sheet` and `desk_print_sheet`.
module _ (κs : Lfts 2) (s s' : Bor (List ℕ)) (out out' : MutBor (List ℕ)) (r : ℕ) where
  pub print_sheet_ends : report.print_sheet.Reads.Post κs (s, (out, tt)) r (s', (out', tt))
      → (r ≡ length (text_of s.now)) × (r ≤ 65536) × (out'.now ≡ laid (text_of s.now) out.now)
  print_sheet_ends p = (p.0.0, rw p.0.0 (text_fits s.now), p.0.1)

  pub desk_print_sheet_ends : desk.desk_print_sheet.Reads.Post κs (s, (out, tt)) r (s', (out', tt))
      → (r ≡ length (text_of s.now)) × (r ≤ 65536) × (out'.now ≡ laid (text_of s.now) out.now)
  desk_print_sheet_ends p = (p.0, rw p.0 (text_fits s.now), p.1)
