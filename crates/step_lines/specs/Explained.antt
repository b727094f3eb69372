-- The rows of a ruled case (RULE R17.4): the head, each step that was reached, the contracts.
use Rattle.std.specs.Prelude.{List, [], ◌∷◌, ◌++◌}
use Rattle.step_lines.specs.Words.{Mills, Side, Clock, Settled, AfterError, None, Some, Judged, Reached, Late, Decided, Unpriced, Priced, Steps, Figures, Piece}
use Rattle.step_lines.specs.Way.{way_rows, panel_row}
use Rattle.step_lines.specs.Theory.{spread_rows, source_row, unpriced_rows}
use Rattle.step_lines.specs.Error.{error_row}
use Rattle.step_lines.specs.Agreed.{agreement_row}
use Rattle.step_lines.specs.Act.{end_rows}
use Rattle.step_lines.specs.Counts.{head_row, cover_of, contracts_row}

-- agreement, then the act where none counts
abbrev pub settled_rows : Side → Mills → Settled → List (List Piece)
settled_rows side tp g = agreement_row g ∷ end_rows side tp g.end

-- after the error: nothing where there is none
abbrev pub after_rows : Side → Mills → AfterError → List (List Piece)
after_rows side tp None = []
after_rows side tp (Some g) = settled_rows side tp g

unfoldable pub judged_rows : Side → Judged → List (List Piece)
judged_rows side j =
    ((spread_rows j.looked.spread ++ (source_row side j.looked j.source j.source.origin ∷ [])) ++ (error_row side j.way j.off ∷ []))
    ++ after_rows side j.source.price j.after

-- after the way: nothing where none is open
abbrev pub reached_rows : Clock → Reached → List (List Piece)
reached_rows c Late = []
reached_rows c Decided = panel_row c ∷ []
reached_rows c (Unpriced l) = unpriced_rows c.side l
reached_rows c (Priced j) = judged_rows c.side j

-- the whole, with the figures of the ruling
unfoldable pub ruled_rows : Steps → Figures → List (List Piece)
ruled_rows s n =
    ((head_row n ∷ way_rows s.clock s.tried) ++ reached_rows s.clock s.reached)
    ++ (contracts_row s.trade.contracts s.clock.side (cover_of s.reached) n ∷ [])
