use mathlib.Core.Path.{◌∙◌}
use Rattle.spelling.proofs.Times.{as_clock, not_eight, no_first_colon, no_second_colon}
use Rattle.spelling.proofs.read_time.Goals as goal
use Rattle.spelling.proofs.read_time.Goals.{else-w-eq8-via-then-w-eq8+then-w-eq58+else-w-eq58-2, else-w-eq8-via-then-w-eq8+else-w-eq58, else-w-eq8-via-else-w-eq8}

pub returns-then-w-eq58-2 : goal.returns-then-w-eq58-2
returns-then-w-eq58-2 c = c.read_clock.ensures ∙ as_clock _ c.if-w-eq8.true c.if-w-eq58.true c.if-w-eq58-2.true

pub returns : goal.returns
returns c =
    c.read_count.ensures
    ∙ elim c.else-w-eq8.branch [
      | else-w-eq8-via-then-w-eq8+then-w-eq58+else-w-eq58-2 w ↦ no_second_colon _ w.if-w-eq58-2.false
      | else-w-eq8-via-then-w-eq8+else-w-eq58 w ↦ no_first_colon _ w.if-w-eq58.false
      | else-w-eq8-via-else-w-eq8 w ↦ not_eight _ w.if-w-eq8.false
    ]
