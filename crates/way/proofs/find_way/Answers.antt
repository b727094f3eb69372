use Rattle.way.specs.Way.{way_of}
use mathlib.Core.Path.{sym, ◌∙◌}
use Rattle.way.proofs.find_way.Goals as goal

pub returns-then-obvious_open : goal.returns-then-obvious_open
unfolding way_of
returns-then-obvious_open c = simp (sym c.obvious_open.ensures ∙ c.if-obvious_open.true)

pub returns-then-opening_open : goal.returns-then-opening_open
unfolding way_of
returns-then-opening_open c = simp (sym c.obvious_open.ensures ∙ c.if-obvious_open.false, sym c.opening_open.ensures ∙ c.if-opening_open.true)

pub returns-then-catastrophic_open : goal.returns-then-catastrophic_open
unfolding way_of
returns-then-catastrophic_open c = simp (
  sym c.obvious_open.ensures ∙ c.if-obvious_open.false,
  sym c.opening_open.ensures ∙ c.if-opening_open.false,
  sym c.catastrophic_open.ensures ∙ c.if-catastrophic_open.true,
)

pub returns : goal.returns
unfolding way_of
returns c = simp (
  sym c.obvious_open.ensures ∙ c.if-obvious_open.false,
  sym c.opening_open.ensures ∙ c.if-opening_open.false,
  sym c.catastrophic_open.ensures ∙ c.if-catastrophic_open.false,
)
