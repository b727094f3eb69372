-- A case's line by the number that reading it gave, the sheet's text by the test that leads there, and the room that they take.
use Prim.Native.Nat.{ℕ, ◌+◌, ◌-◌, ◌≤◌}
use mathlib.Core.Path.{◌≡◌, sym, ap, ◌∙◌}
use mathlib.Core.Bool.{true, false}
use mathlib.Core.List.{List, ◌++◌}
use native.Mathlib.Omega.{arith}
use lib.ListN.{length, take, length-append}
use lib.Seq.{length-take-le}
use lib.Dec.{eqb}
use borrow.Author.Tests.{eq-eqb, ne_eqb}
use borrow.Rule.Slice.PartMut.{mid_of, put_mid}
use Rattle.wire.specs.Laid.{laid, row}
use Rattle.wire.proofs.Laid.{laid_part}
use Rattle.wire.proofs.Tests.{either}
use Rattle.wire.proofs.Rows.{Ran}
use Rattle.record.specs.Record.{facts_of}
use Rattle.cases.specs.Cases.{refusal_of, reading_of}
use Rattle.ruling.specs.Ruling.{ruling_of}
use Rattle.figures.specs.Figures.{figures_of}
use Rattle.sheet.specs.Sheet.{cases_in, ruled_one, ruled_in, whole_cases}
use Rattle.sheet.proofs.Entries.{told_ruled, told_refused, told_number, told_facts, entered, one_ruled, one_refused}
use Rattle.lines.specs.Lines.{header, ruled_line, refused_line, end_line, sheet_line}
use Rattle.lines.proofs.Lengths.{ruled_most, refused_most, end_most}
use Rattle.report.specs.Words.{Facts, Reading, Figures}
use Rattle.report.specs.Report.{case_line, line_of, ruled_text, text_of}

module _ (k : ℕ) (r : Reading) where
  pub line_ruled : r.refusal ≡ 0 → case_line k r ≡ ruled_line (figures_of (ruling_of r.facts))
  unfolding case_line
  line_ruled h = simp (eq-eqb r.refusal 0 h)

  pub line_refused : (r.refusal ≡ 0 → ⊥) → case_line k r ≡ refused_line k r.refusal
  unfolding case_line
  line_refused h = simp (ne_eqb r.refusal 0 h)

  pub line_most : length (case_line k r) ≤ 96
  unfolding case_line
  line_most =
      either (λ (w : List ℕ). length w ≤ 96) (eqb r.refusal 0) (ruled_line (figures_of (ruling_of r.facts))) (refused_line k r.refusal)
      (λ _. ruled_most (figures_of (ruling_of r.facts)))
      (λ _. refused_most k r.refusal)

-- what a case adds, from its parts: the number of its first failed test, and the line that was written for it
module _ (k : ℕ) (s l m : List ℕ) (n : ℕ) (e : n ≡ refusal_of s) where
  abbrev Entered : ℕ → ℕ → Type 0
  Entered bytes ruled = (bytes ≡ length (case_line k (reading_of s))) × (ruled ≡ ruled_one (reading_of s)) × (m ≡ laid (case_line k (reading_of s)) l)

  pub put_ruled_line : n ≡ 0 → (g : Figures) → g ≡ figures_of (ruling_of (facts_of s)) → (bytes : ℕ) → (bytes ≡ length (ruled_line g)) × (m ≡ laid (ruled_line g) l) → Entered bytes 1
  put_ruled_line h g judged bytes w =
      let z = told_ruled s n e h in
      let same = ap (λ (x : Facts). ruled_line (figures_of (ruling_of x))) (told_facts s n e h) ∙ ap ruled_line (sym judged) in
      entered case_line k (reading_of s) (ruled_line g) l m bytes 1 (line_ruled k (reading_of s) z ∙ same) w.0 (one_ruled (reading_of s) z) w.1

  pub put_refused_line : (n ≡ 0 → ⊥) → (bytes : ℕ) → (bytes ≡ length (refused_line k n)) × (m ≡ laid (refused_line k n) l) → Entered bytes 0
  put_refused_line h bytes w =
      let z = told_refused s n e h in
      entered case_line k (reading_of s) (refused_line k n) l m bytes 0 (line_refused k (reading_of s) z ∙ ap (refused_line k) (told_number s n e)) w.0 (one_refused (reading_of s) z) w.1

pub bytes_most : (b k : ℕ) (r : Reading) → b ≡ length (case_line k r) → b ≤ 96
bytes_most b k r e = omega (arith, line_most k r)

pub end_long : (b ruled refused : ℕ) → b ≡ length (end_line ruled refused) → b ≤ 96
end_long b ruled refused e = omega (arith, end_most ruled refused)

module _ (s : List ℕ) where
  pub text_whole : whole_cases s ≡ true → text_of s ≡ ruled_text s (cases_in s)
  unfolding text_of
  text_whole h = simp h

  pub text_refused : whole_cases s ≡ false → text_of s ≡ sheet_line 10
  unfolding text_of
  text_refused h = simp h

-- what is printed, and what whoever writes the first k bytes out must know of them
pub printed : (t w l m : List ℕ) (k : ℕ) → t ≡ w → Ran w l k m → length w ≤ length m
    → ((k ≡ length t) × (m ≡ laid t l)) × ((k ≤ length m) × (k ≡ length (take k m)))
printed t w l m k e r h =
    let n : k ≤ length m = omega (arith, r.0) in
    rw e (r, (n, sym (length-take-le k m n)))

-- the header and the lines, then END in the part after them
pub whole_text : (s l m z : List ℕ) (n end ruled last : ℕ)
    → (end ≡ length (header ++ row (line_of s) n)) × (ruled ≡ ruled_in s n) × (m ≡ laid (header ++ row (line_of s) n) l)
    → (last ≡ length (end_line ruled (n - ruled))) × (z ≡ laid (end_line ruled (n - ruled)) (mid_of end (length m - end) m))
    → Ran (ruled_text s n) l (end + last) (put_mid end (length m - end) m z)
whole_text s l m z n end ruled last c e =
    let w = header ++ row (line_of s) n in
    let v = end_line ruled (n - ruled) in
    rw (← c.1) (omega (arith, length-append w v), laid_part w v l m z end c.2 c.0 e.1)
