use mathlib.Core.Path.{sym, ap, ap₂, ◌∙◌}
use mathlib.Core.Bool.{◌&&◌}
use Rattle.refusals.specs.Tests.{differential_ok, prices_ok}
use Rattle.prices.proofs.prices_ok.Goals as goal

pub returns-then-not-mills_ok : goal.returns-then-not-mills_ok
unfolding prices_ok
returns-then-not-mills_ok c = simp (sym c.mills_ok.ensures ∙ c.if-not-mills_ok.true)

pub returns-then-not-quotes_priced : goal.returns-then-not-quotes_priced
unfolding prices_ok
returns-then-not-quotes_priced c = simp (sym c.mills_ok.ensures ∙ c.if-not-mills_ok.false, sym c.quotes_priced.ensures ∙ c.if-not-quotes_priced.true)

pub returns : goal.returns
unfolding prices_ok
returns c = simp (
  sym c.mills_ok.ensures ∙ c.if-not-mills_ok.false,
  sym c.quotes_priced.ensures ∙ c.if-not-quotes_priced.false,
)
    (ap₂ ◌&&◌ (ap₂ ◌&&◌ (ap₂ ◌&&◌ c.price_ok.ensures c.price_ok-2.ensures) c.price_ok-3.ensures)
    (c.differential_ok.ensures ∙ ap differential_ok c.differential_of.ensures))
