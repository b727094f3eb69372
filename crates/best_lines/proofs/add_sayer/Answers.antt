use mathlib.Core.Path.{◌≡◌, sym, ◌∙◌}
use native.Mathlib.Omega.{arith}
use Rattle.best_lines.specs.Words.{None, Some}
use Rattle.best_lines.specs.BestLines.{sayer_line}
use Rattle.best_lines.proofs.NoLine.{no_line}
use Rattle.best_lines.proofs.add_sayer.Goals as goal

pub returns-in-Some : goal.returns-in-Some
unfolding sayer_line
returns-in-Some c = let e : c.args.last ≡ Some _ = c.in-Some.is in
    let t = sym c.same.ensures ∙ c.if-same.true in
    rw (e, ← c.half_of.ensures, t) c.add_quote.ensures

pub returns-in_default : goal.returns-in_default
unfolding sayer_line
returns-in_default c = let e : c.args.last ≡ Some _ = c.in-Some.is in
    let t = sym c.same.ensures ∙ c.if-same.false in
    no_line _ _ _ _ (rw (e, ← c.half_of.ensures, t)) (omega arith)

pub returns-in_default-2 : goal.returns-in_default-2
unfolding sayer_line
returns-in_default-2 c = let e : c.args.last ≡ None = c.in_default.is in
    no_line _ _ _ _ (rw e) (omega arith)
