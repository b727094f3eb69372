use native.Mathlib.Omega.{arith}
use mathlib.Core.Path.{◌≡◌, sym, ap, ap₂, ◌∙◌}
use Rattle.cases.specs.Cases.{refusal_of}
use Rattle.cases.proofs.Laws.{passed_whole}
use Rattle.steps.specs.Steps.{steps_of}
use Rattle.step_lines.specs.Explained.{ruled_rows}
use Rattle.blame.specs.Words.{Blame}
use Rattle.blame_lines.specs.Lines.{blame_rows}
use Rattle.explanation.proofs.Told.{as_rows, told_ruled, told_refused}
use Rattle.explanation.proofs.add_told.Goals as goal

pub facts_of-requires : goal.facts_of-requires
facts_of-requires c = passed_whole _ (sym c.check_case.ensures ∙ c.if-check_case-eq0.true)

pub judge-figures-requires : goal.judge-figures-requires
judge-figures-requires c = passed_whole _ (sym c.check_case.ensures ∙ c.if-check_case-eq0.true)

pub returns-then-check_case-eq0 : goal.returns-then-check_case-eq0
returns-then-check_case-eq0 c = let s = c.args.case.now in let w = c.add_steps.ensures in let accepted = sym c.check_case.ensures ∙ c.if-check_case-eq0.true in
    let facts = c.facts_of.ensures in let found = c.find_steps-found.ensures ∙ ap steps_of facts in
    let told = ap₂ ruled_rows found c.judge-figures.ensures ∙ told_ruled s accepted in
    let r = as_rows _ _ _ _ _ _ told (w.0, w.1) in
    (r.0, r.1, omega (arith, w.2))

pub returns : goal.returns
returns c = let s = c.args.case.now in let w = c.add_blame.ensures in let refused : refusal_of s ≡ 0 → ⊥ = λ e. c.if-check_case-eq0.false (c.check_case.ensures ∙ e) in
    let told = ap (λ (b : Blame). blame_rows s b) c.find_blame-blame.ensures ∙ told_refused s refused in
    let r = as_rows _ _ _ _ _ _ told (w.0, w.1) in
    (r.0, r.1, omega (arith, w.2))
