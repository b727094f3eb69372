use mathlib.Core.Path.{sym, ◌∙◌}
use Rattle.faults.proofs.Row.{prices_stop, counts_stop, times_stop, limits_stop, agreement_stops}
use Rattle.faults.proofs.later_fault.Goals as goal

pub returns-then-not-prices_ok : goal.returns-then-not-prices_ok
returns-then-not-prices_ok c = prices_stop _ (sym c.prices_ok.ensures ∙ c.if-not-prices_ok.true)

pub returns-then-not-counts_ok : goal.returns-then-not-counts_ok
returns-then-not-counts_ok c = counts_stop _ (sym c.prices_ok.ensures ∙ c.if-not-prices_ok.false) (sym c.counts_ok.ensures ∙ c.if-not-counts_ok.true)

pub returns-then-not-times_ok : goal.returns-then-not-times_ok
returns-then-not-times_ok c = times_stop _ (sym c.prices_ok.ensures ∙ c.if-not-prices_ok.false) (sym c.counts_ok.ensures ∙ c.if-not-counts_ok.false)
    (sym c.times_ok.ensures ∙ c.if-not-times_ok.true)

pub returns-then-not-limits_ok : goal.returns-then-not-limits_ok
returns-then-not-limits_ok c = limits_stop _ (sym c.prices_ok.ensures ∙ c.if-not-prices_ok.false) (sym c.counts_ok.ensures ∙ c.if-not-counts_ok.false)
    (sym c.times_ok.ensures ∙ c.if-not-times_ok.false)
    (sym c.limits_ok.ensures ∙ c.if-not-limits_ok.true)

pub returns : goal.returns
returns c = agreement_stops _ (sym c.prices_ok.ensures ∙ c.if-not-prices_ok.false) (sym c.counts_ok.ensures ∙ c.if-not-counts_ok.false)
    (sym c.times_ok.ensures ∙ c.if-not-times_ok.false)
    (sym c.limits_ok.ensures ∙ c.if-not-limits_ok.false) _ _ c.agreement_ok.ensures c.unless.ensures
