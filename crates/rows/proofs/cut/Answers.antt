use Rattle.std.proofs.Common.{rules, tests, ◌+◌, eqb, drop, take, sym, ap, ◌∙◌, arith}
use Rattle.std.proofs.lemmas.Iterator.{YieldsList-from_slice}
use Rattle.std.proofs.lemmas.Iterator.Search.{position_from_yields_List}
use Rattle.std.proofs.lemmas.List.{take_all, length-drop}
use Rattle.rows.proofs.Cuts.{found_at, found_nowhere}
use Rattle.rows.proofs.cut.Goals as goal

pub returns-in_err-at : goal.returns-in_err-at
returns-in_err-at c =
    let found = position_from_yields_List (λ b. eqb b c.args.mark) _ _ c.position.result c.position.ensures.ran (YieldsList-from_slice _ c.iter.ensures.rest) (λ x b q k. search (rules, tests)) in
    rw (c.from_residual.ensures) (found_nowhere _ _ (sym c.in_err-at.was ∙ found))

pub returns : goal.returns
returns c =
    let found = position_from_yields_List (λ b. eqb b c.args.mark) _ _ c.position.result c.position.ensures.ran (YieldsList-from_slice _ c.iter.ensures.rest) (λ x b q k. search (rules, tests)) in
    let at = found_at _ _ _ (sym c.in_ok-at.was ∙ found) in (
      at.0,
      ap (λ n. take n c.args.text.now) at.1,
      take_all _ _ (omega (arith, length-drop (c.in_ok-at.at + 1) c.args.text.now)) ∙ ap (λ n. drop (n + 1) c.args.text.now) at.1,
    )
