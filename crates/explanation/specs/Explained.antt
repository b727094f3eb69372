-- The explanation of a case (RULE R17.4, R17.11, R17.12), for every byte string that is brought as one.
use Rattle.std.specs.Prelude.{ℕ, List, ◌++◌, eqb}
use Rattle.wire.specs.Tests.{pick}
use Rattle.record.specs.Record.{facts_of}
use Rattle.cases.specs.Cases.{refusal_of}
use Rattle.ruling.specs.Ruling.{ruling_of}
use Rattle.figures.specs.Figures.{figures_of}
use Rattle.words.specs.Rows.{rows_text}
use Rattle.steps.specs.Steps.{steps_of}
use Rattle.step_lines.specs.Explained.{ruled_rows}
use Rattle.blame.specs.Fields.{blame_of}
use Rattle.blame_lines.specs.Lines.{blame_rows}
use Rattle.careful.specs.Careful.{cautions_of}
use Rattle.careful_lines.specs.Lines.{careful_rows}
use Rattle.explanation.specs.Words.{Piece}

-- what each step found, with the figures of the ruling; of a refused case the field that broke its test
unfoldable pub told_rows : List ℕ → List (List Piece)
told_rows s = pick (eqb (refusal_of s) 0) (ruled_rows (steps_of (facts_of s)) (figures_of (ruling_of (facts_of s)))) (blame_rows s (blame_of s))

-- and what to be careful of
unfoldable pub explained_rows : List ℕ → List (List Piece)
explained_rows s = told_rows s ++ careful_rows (cautions_of s)

unfoldable pub explained_of : List ℕ → List ℕ
explained_of s = rows_text (explained_rows s)
