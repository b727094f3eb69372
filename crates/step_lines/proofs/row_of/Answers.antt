use Rattle.std.proofs.Common.{List, ◌++◌, length, ap}
use Rattle.std.proofs.lemmas.List.{drop-replicate}
use Rattle.words.specs.Pieces.{blank}
use Rattle.step_lines.specs.Words.{Piece}
use Rattle.step_lines.proofs.row_of.Goals as goal

pub returns : goal.returns
returns c = let w = c.args.pieces.now in
    simp (c.said-row.ensures, c.copy_from_slice.ensures.after) (ap (λ (l : List Piece). w ++ l) (drop-replicate (length w) 10 blank))
