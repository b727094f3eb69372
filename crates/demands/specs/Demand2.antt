-- Demand 2 (RULE R13.0.2): ruling, reason, price and counts are exactly the page's. Whatever the promise of an entry point allows is what
-- the page's definitions make of the same input; and a case, written and read or read and written, comes back (`RoundTrips`).
-- `crate.function.Reads.Post` is the promise as Rattle reads it from the contract in the source: of the arguments, the answer, and the
-- arguments afterwards.
use Rattle.std.specs.Prelude.{ℕ, ◌≤◌, ◌≡◌, List, length}
use contract.Lifetimes.{Lfts}
use Rattle.std.specs.Borrow.{Bor, MutBor}
use Rattle.wire.specs.Laid.{laid}
use Rattle.record.specs.Record.{facts_of}
use Rattle.cases.specs.Words.{Facts}
use Rattle.cases.specs.declared.Reading.{Reading}
use Rattle.cases.specs.Cases.{refusal_of, reading_of, writing_of}
use Rattle.cases.proofs as cases
use Rattle.ruling.specs.declared.Ruling.{Ruling}
use Rattle.ruling.specs.Ruling.{ruling_of}
use Rattle.ruling.proofs as ruling
use Rattle.answer.specs.Answer.{answer_of, case_of}
use Rattle.answer.proofs as answer
use Rattle.sheet.specs.declared.SheetAnswer.{SheetAnswer}
use Rattle.sheet.specs.Sheet.{sheet_of}
use Rattle.sheet.proofs as sheet
use Rattle.report.specs.Report.{text_of}
use Rattle.report.proofs as report
use Rattle.desk.specs.declared.DeskSheet.{DeskSheet}
use Rattle.desk.specs.Desk.{desk_sheet}
use Rattle.desk.proofs as desk

-- The answer is the definition's, the definition's bytes stand over the start of the buffer, and every byte after them is kept.
abbrev pub Said : {A : Type 0} → A → List ℕ → A → List ℕ → List ℕ → Type 0
Said answer bytes r before after = (r ≡ answer) × (after ≡ laid bytes before)

-- ---- facts

-- They are written as the record's table says, or refused by the table of numbers.
pub write_case_says : (κ : Lfts 1) (f f' : Facts) (out out' : MutBor (List ℕ)) (r : ℕ) → cases.write_case.Reads.Post κ (f, (out, tt)) r (f', (out', tt))
    → let a = writing_of f (length out.now) in Said a.0 a.1 r out.now out'.now
write_case_says κ f f' out out' r p = (p.0, p.1)

-- ---- the bytes of a case
module _ (κ : Lfts 1) (s s' : Bor (List ℕ)) where
  -- They are tested by the table of numbers, for the desk's own programs and for others.
  pub check_case_says : (r : ℕ) → cases.check_case.Reads.Post κ (s, tt) r (s', tt) → r ≡ refusal_of s.now
  check_case_says r p = p

  pub desk_check_case_says : (r : ℕ) → desk.desk_check_case.Reads.Post κ (s, tt) r (s', tt) → r ≡ refusal_of s.now
  desk_check_case_says r p = p

  -- The facts that they say are ruled by the steps of a ruling.
  pub rule_says : (r : Ruling) → ruling.rule.Reads.Post κ (s, tt) r (s', tt) → r ≡ ruling_of (facts_of s.now)
  rule_says r p = p.0

  -- They are read as the record's table says.
  pub read_case_says : (r : Reading) → cases.read_case.Reads.Post κ (s, tt) r (s', tt) → r ≡ reading_of s.now
  read_case_says r p = p.0

module _ (κs : Lfts 2) (s s' : Bor (List ℕ)) (out out' : MutBor (List ℕ)) where
  -- They are answered by the ruling record and the two notices, or refused.
  pub rule_case_says : (r : ℕ) → answer.rule_case.Reads.Post κs (s, (out, tt)) r (s', (out', tt))
      → let a = case_of s.now (length out.now) in Said a.0 a.1 r out.now out'.now
  rule_case_says r p = p

  pub desk_rule_case_says : (r : ℕ) → desk.desk_rule_case.Reads.Post κs (s, (out, tt)) r (s', (out', tt))
      → let a = case_of s.now (length out.now) in Said a.0 a.1 r out.now out'.now
  desk_rule_case_says r p = p

  -- ---- the bytes of a sheet

  -- They are answered by the row of the cases' answers and refusal records, with the counts, or refused.
  pub rule_sheet_says : (r : SheetAnswer) → sheet.rule_sheet.Reads.Post κs (s, (out, tt)) r (s', (out', tt))
      → let a = sheet_of s.now (length out.now) in Said a.0 a.1 r out.now out'.now
  rule_sheet_says r p = p

  pub desk_rule_sheet_says : (r : DeskSheet) → desk.desk_rule_sheet.Reads.Post κs (s, (out, tt)) r (s', (out', tt))
      → let a = sheet_of s.now (length out.now) in Said (desk_sheet a.0) a.1 r out.now out'.now
  desk_rule_sheet_says r p = p

  -- They are printed in the printer's lines, and the answer is how many bytes these have.
  pub print_sheet_says : (r : ℕ) → report.print_sheet.Reads.Post κs (s, (out, tt)) r (s', (out', tt))
      → let text = text_of s.now in Said (length text) text r out.now out'.now
  print_sheet_says r p = p.0

  pub desk_print_sheet_says : (r : ℕ) → desk.desk_print_sheet.Reads.Post κs (s, (out, tt)) r (s', (out', tt))
      → let text = text_of s.now in Said (length text) text r out.now out'.now
  desk_print_sheet_says r p = p

-- ---- nothing good is refused

-- Every case that passes the tests is ruled where there is room, by the 96 bytes of the ruling on its facts.
pub accepted_ruled : (s : List ℕ) (room : ℕ) → (reading_of s).refusal ≡ 0 → 96 ≤ room → case_of s room ≡ (0, answer_of (facts_of s))
accepted_ruled = answer.Cases.accepted_ruled
