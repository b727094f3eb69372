-- A sheet's text in pieces of at most 96 bytes, for whoever writes it out and has no room for the whole of it (RULE R11).
use Rattle.std.specs.Prelude.{ℕ, zero, suc, ◌+◌, ◌-◌, List, [], ltb, eqb}
use Rattle.wire.specs.Tests.{pick}
use Rattle.sheet.specs.Sheet.{cases_in, ruled_in, whole_cases}
use Rattle.lines.specs.Lines.{header, end_line, sheet_line}
use Rattle.report.specs.Report.{line_of}

-- of n cases: the header, the line of each, END; after END each is empty
abbrev pub ruled_piece : List ℕ → ℕ → ℕ → List ℕ
ruled_piece s n zero = header
ruled_piece s n (suc k) = pick (ltb k n) (line_of s k) (pick (eqb k n) (end_line (ruled_in s n) (n - ruled_in s n)) [])

-- of a sheet refused whole: the one line; after it each is empty
abbrev pub refused_piece : ℕ → List ℕ
refused_piece zero = sheet_line 10
refused_piece (suc k) = []

-- piece k of a sheet's text
unfoldable pub piece_of : List ℕ → ℕ → List ℕ
piece_of s k = pick (whole_cases s) (ruled_piece s (cases_in s) k) (refused_piece k)

-- how many pieces there are: the header, a line for each case, END; or the one line
unfoldable pub pieces_in : List ℕ → ℕ
pieces_in s = pick (whole_cases s) (cases_in s + 2) 1

-- the most that there are: 600 cases
abbrev pub most_pieces : ℕ
most_pieces = 602
