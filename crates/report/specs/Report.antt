-- What the printer writes for a sheet (RULE R11).
use Rattle.std.specs.Prelude.{ℕ, ◌-◌, List, ◌++◌, eqb}
use Rattle.wire.specs.Laid.{row}
use Rattle.wire.specs.Tests.{pick}
use Rattle.cases.specs.Cases.{reading_of}
use Rattle.ruling.specs.Ruling.{ruling_of}
use Rattle.figures.specs.Figures.{figures_of}
use Rattle.sheet.specs.Sheet.{case_at, cases_in, ruled_in, whole_cases}
use Rattle.lines.specs.Lines.{header, ruled_line, refused_line, end_line, sheet_line}
use Rattle.report.specs.Words.{Reading}

-- a ruled case has the line of its ruling, a refused one the line of its number
unfoldable pub case_line : ℕ → Reading → List ℕ
case_line index r = pick (eqb r.refusal 0) (ruled_line (figures_of (ruling_of r.facts))) (refused_line index r.refusal)

-- the line of case k
abbrev pub line_of : List ℕ → ℕ → List ℕ
line_of s k = case_line k (reading_of (case_at s k))

-- of n cases: the header, their lines in order, END
abbrev pub ruled_text : List ℕ → ℕ → List ℕ
ruled_text s n = (header ++ row (line_of s) n) ++ end_line (ruled_in s n) (n - ruled_in s n)

-- A sheet that is no row of whole cases, or too long, prints its refusal alone.
unfoldable pub text_of : List ℕ → List ℕ
text_of s = pick (whole_cases s) (ruled_text s (cases_in s)) (sheet_line 10)
