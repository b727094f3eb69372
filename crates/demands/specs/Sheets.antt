-- Sheets (RULE R1.3, R3.10, R10.3, R10.6, R12.10; `Laws` has R12.4): how bytes are cut into cases, what is written for them, and what one case changes.
use Rattle.std.specs.Prelude.{ℕ, ◌+◌, ◌*◌, ◌≤◌, ◌<◌, ◌≡◌, true, false, List, [], ◌++◌, length, take, drop, set, leb, eqb}
use Rattle.std.proofs.Common.{sym, ap, ◌∙◌, arith, leb-true, le-leb}
use contract.Lifetimes.{Lfts}
use Rattle.std.specs.Borrow.{Bor, MutBor}
use Rattle.wire.specs.Laid.{laid, row}
use Rattle.wire.proofs.Tests.{both_true}
use Rattle.cut.specs.Cut.{IsCase, case_length, uncut, before, cut, whole, cases_in, case_at, together, AllCases, SameButIn}
use Rattle.cut.proofs.Cut as cutting
use Rattle.cut.proofs.Laws as laws
use Rattle.sheet.specs.declared.SheetAnswer.{SheetAnswer}
use Rattle.ruling.specs.Origins.{Exactly}
use Rattle.sheet.specs.Sheet.{entry_of, whole_cases, sheet_of}
use Rattle.sheet.proofs as sheet
use Rattle.sheet.proofs.Turns.{answered}
use Rattle.sheet.proofs.Counts.{ruled_within, written_counts}
use Rattle.sheet.proofs.Whole as wholes
use Rattle.alike.specs.Sheets.{ButOne, OnlyEntry}
use Rattle.alike.proofs.Sheets as sheets
use Rattle.desk.specs.declared.DeskSheet.{DeskSheet}
use Rattle.desk.proofs as desk
use Rattle.demands.specs.Why as why

-- ---- cutting

-- Where no case comes first, nothing is cut; else the first case comes before the parts of the rest.
pub cut_end : (s : List ℕ) → case_length s ≡ 0 → cut s ≡ uncut s
cut_end = cutting.cut_end

pub cut_more : (s : List ℕ) → (case_length s ≡ 0 → ⊥) → cut s ≡ before (take (case_length s) s) (cut (drop (case_length s) s))
cut_more = cutting.cut_more

-- What is cut off are cases, and with what is left they are the bytes.
pub parts : (s : List ℕ) → AllCases (cut s).cases × (together (cut s).cases ++ (cut s).left ≡ s)
parts s = (cutting.cut_each s, cutting.cut_joins s)

pub case_is : (s : List ℕ) (k : ℕ) → k < cases_in s → IsCase (case_at s k)
case_is = laws.case_is

-- A whole sheet is its cases, one after the other.
pub whole_joins : (s : List ℕ) → whole s ≡ true → together (cut s).cases ≡ s
whole_joins = laws.whole_joins

-- Cases put one after the other are cut back into themselves, and nothing is left.
pub cut_back : (cs : List (List ℕ)) → AllCases cs → cut (together cs) ≡ record { cases = cs; left = [] }
cut_back = cutting.cut_back

-- A whole sheet and then another one: the cases of both.
pub two_sheets : (s t : List ℕ) → whole s ≡ true → cut (s ++ t) ≡ record { cases = (cut s).cases ++ (cut t).cases; left = (cut t).left }
two_sheets = laws.two_sheets

-- Where every case has n bytes, case k stands at n · k.
pub even_case : (n : ℕ) (cs : List (List ℕ)) → AllCases cs → laws.AllLong n cs → (k : ℕ) → k < length cs → case_at (together cs) k ≡ take n (drop (k * n) (together cs))
even_case = laws.even_case

-- Bytes are whole exactly where they are cases put one after the other.
pub whole_exactly : (s : List ℕ) → Exactly (whole s ≡ true) ((cs : List (List ℕ)) × AllCases cs × (together cs ≡ s))
unfolding whole
whole_exactly s =
    (λ h. ((cut s).cases, cutting.cut_each s, laws.whole_joins s h), λ c. rw (sym c.2) (ap (λ p. eqb (length p.left) 0) (cutting.cut_back c.0 c.1)))

-- ---- refused whole (RULE R3.10, R3.11, R3.0.12, R3.0.14)

-- A sheet may be ruled exactly where it is whole and has 52,800 bytes at most; 10 is given exactly where it may not.
pub may_be_ruled : (s : List ℕ) → Exactly (whole_cases s ≡ true) ((whole s ≡ true) × (length s ≤ 52800))
unfolding whole_cases
may_be_ruled s =
    (λ h. let b = both_true (whole s) (leb (length s) 52800) h in (b.0, leb-true (length s) 52800 b.1), λ b. simp (b.0, le-leb (length s) 52800 b.1))

pub ten_exactly : (s : List ℕ) (room : ℕ) → Exactly ((sheet_of s room).0.refusal ≡ 10) (whole_cases s ≡ false)
ten_exactly = why.ten_exactly

-- 11 is given exactly where it may, and the room has less than 96 bytes for each case.
pub eleven_exactly : (s : List ℕ) (room : ℕ) → Exactly ((sheet_of s room).0.refusal ≡ 11) ((whole_cases s ≡ true) × (room < cases_in s * 96))
eleven_exactly = why.eleven_exactly

-- ---- answers

-- The answer of a sheet that is not refused whole is the answers of its cases in order, each as by itself; equal trade numbers too.
pub each_by_itself : (s : List ℕ) (room : ℕ) → (sheet_of s room).0.refusal ≡ 0 → (sheet_of s room).1 ≡ row (entry_of s) (cases_in s)
each_by_itself = wholes.each_by_itself

-- 96 bytes are written for each ruled case and 12 for each refused one, and each case is one of the two.
pub counts : (s : List ℕ) (room : ℕ) → (sheet_of s room).0.refusal ≡ 0
    → ((sheet_of s room).0.written ≡ 96 * (sheet_of s room).0.ruled + 12 * (sheet_of s room).0.refused)
    × ((sheet_of s room).0.ruled + (sheet_of s room).0.refused ≡ cases_in s)
counts s room e = rw (answered s room e) (written_counts s (cases_in s), omega (arith, ruled_within s (cases_in s)))

-- ---- one case changed (`ButOne`): what is written before its entry and after it stays

-- Another case in the place of case j, of whatever length.
pub one_changed : (s : List ℕ) (j : ℕ) (d : List ℕ) → IsCase d → j < cases_in s → ButOne s (together (set (cut s).cases j d)) j
one_changed = sheets.changed

-- Bytes that differ only within case j, after its head.
pub one_differs : (s t : List ℕ) (j : ℕ) → j < cases_in s → SameButIn s t j → ButOne s t j
one_differs = sheets.differs

pub only_entry : (s t : List ℕ) (j : ℕ) → ButOne s t j → (room room' : ℕ) → (sheet_of s room).0.refusal ≡ 0 → (sheet_of t room').0.refusal ≡ 0
    → OnlyEntry s t j (sheet_of s room).1 (sheet_of t room').1
only_entry = sheets.only_entry

-- So every two calls of `rule_sheet`, or of `desk_rule_sheet`, that rule such sheets.
module _ (κs κs' : Lfts 2) (s s' t t' : Bor (List ℕ)) (out out' o o' : MutBor (List ℕ)) (j : ℕ) (but : ButOne s.now t.now j) where
  abbrev OnlyThere : Type 0
  OnlyThere = (a : List ℕ) × (b : List ℕ) × (out'.now ≡ laid a out.now) × (o'.now ≡ laid b o.now) × OnlyEntry s.now t.now j a b

  there : (sheet_of s.now (length out.now)).0.refusal ≡ 0 → (sheet_of t.now (length o.now)).0.refusal ≡ 0
      → out'.now ≡ laid (sheet_of s.now (length out.now)).1 out.now → o'.now ≡ laid (sheet_of t.now (length o.now)).1 o.now → OnlyThere
  there e e' p u =
      let a = (sheet_of s.now (length out.now)).1 in
      let b = (sheet_of t.now (length o.now)).1 in
      (a, b, p, u, only_entry s.now t.now j but (length out.now) (length o.now) e e')

  pub rule_sheet_but_one : (r q : SheetAnswer) → sheet.rule_sheet.Reads.Post κs (s, (out, tt)) r (s', (out', tt))
      → sheet.rule_sheet.Reads.Post κs' (t, (o, tt)) q (t', (o', tt)) → r.refusal ≡ 0 → q.refusal ≡ 0 → OnlyThere
  rule_sheet_but_one r q p u e e' =
      there (ap (λ (x : SheetAnswer). x.refusal) (sym p.0) ∙ e) (ap (λ (x : SheetAnswer). x.refusal) (sym u.0) ∙ e') p.1 u.1

  pub desk_rule_sheet_but_one : (r q : DeskSheet) → desk.desk_rule_sheet.Reads.Post κs (s, (out, tt)) r (s', (out', tt))
      → desk.desk_rule_sheet.Reads.Post κs' (t, (o, tt)) q (t', (o', tt)) → r.refusal ≡ 0 → q.refusal ≡ 0 → OnlyThere
  desk_rule_sheet_but_one r q p u e e' =
      there (ap (λ (x : DeskSheet). x.refusal) (sym p.0) ∙ e) (ap (λ (x : DeskSheet). x.refusal) (sym u.0) ∙ e') p.1 u.1
