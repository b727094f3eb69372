use mathlib.Core.Path.{◌≡◌, refl, sym, ap, ◌∙◌}
use mathlib.Core.Bool.{true, false}
use Rattle.record.specs.Record.{facts_of}
use Rattle.ruling.specs.Words.{Trade, Request, Facts, Way, Obvious, Opening, Catastrophic, None, Ruling}
use Rattle.ruling.specs.Ruling.{no_relief, ruled_on, ruled_by}
use Rattle.ruling.proofs.rule_by.Goals as goal
use Rattle.ruling.proofs.rule_by.Goals.{in-Catastrophic+else-request_of, in_default}

module _ (f : Facts) {r : Ruling} where
  other : (w : Way) → (w ≡ Catastrophic → ⊥) → r ≡ ruled_on f w → r ≡ ruled_by f w
  unfolding ruled_by
  other Obvious n e = e
  other Opening n e = e
  other Catastrophic n e = absurd (n refl)

module _ (f : Facts) {way : Way} {r : Ruling} where
  decided : way ≡ Catastrophic → f.request.decided ≡ true → r ≡ no_relief f.trade 3 None → r ≡ ruled_by f way
  unfolding ruled_by
  decided w d e = simp (w, d) e

  undecided : way ≡ Catastrophic → f.request.decided ≡ false → r ≡ ruled_on f way → r ≡ ruled_by f way
  unfolding ruled_by
  undecided w d e = simp (w, d) (e ∙ ap (ruled_on f) w)

pub returns-then-request_of : goal.returns-then-request_of
unfolding facts_of
returns-then-request_of c = decided _ c.in-Catastrophic.is (ap (λ (r : Request). r.decided) (sym c.request_of.ensures) ∙ c.if-request_of.true)
    (c.no_relief.ensures ∙ ap (λ (t : Trade). no_relief t 3 None) c.trade_of.ensures)

pub returns : goal.returns
unfolding facts_of
returns c = elim c.match-way.branch [
  | in-Catastrophic+else-request_of w ↦ undecided _ w.in-Catastrophic.is (ap (λ (r : Request). r.decided) (sym w.request_of.ensures) ∙ w.if-request_of.false) c.rule_on.ensures
  | in_default w ↦ other _ _ w.in_default.not-Catastrophic c.rule_on.ensures
]
