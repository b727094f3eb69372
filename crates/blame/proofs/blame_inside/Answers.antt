use mathlib.Core.Path.{◌∙◌}
use mathlib.Core.List.{List, ◌++◌}
use Rattle.std.proofs.Common.{rules}
use Rattle.blame.specs.Words.{Field}
use Rattle.blame.specs.Fields.{head_fields, coded_fields, code_fields, price_fields, count_fields, time_fields, limit_fields, agreement_fields, inside_blame}
use Rattle.blame.proofs.Found.{then_row, eight_rows}
use Rattle.blame.proofs.blame_inside.Goals as goal

pub returns : goal.returns
unfolding inside_blame
returns c =
    let s = c.args.s.now in
    let to_three : List Field = head_fields s ++ coded_fields s in
    let to_four : List Field = to_three ++ code_fields s in
    let to_five : List Field = to_four ++ price_fields s in
    let to_six : List Field = to_five ++ count_fields s in
    let to_seven : List Field = to_six ++ time_fields s in
    let to_eight : List Field = to_seven ++ limit_fields s in
    let three = then_row (head_fields s) (coded_fields s) _ _ c.head_blame.ensures c.or_else.ensures (λ p. search rules) in
    let four = then_row to_three (code_fields s) _ _ three c.or_else-2.ensures (λ p. search rules) in
    let five = then_row to_four (price_fields s) _ _ four c.or_else-3.ensures (λ p. search rules) in
    let six = then_row to_five (count_fields s) _ _ five c.or_else-4.ensures (λ p. search rules) in
    let seven = then_row to_six (time_fields s) _ _ six c.or_else-5.ensures (λ p. search rules) in
    let eight = then_row to_seven (limit_fields s) _ _ seven c.or_else-6.ensures (λ p. search rules) in
    then_row to_eight (agreement_fields s) _ _ eight c.or_else-7.ensures (λ p. search rules)
    ∙ eight_rows (head_fields s) (coded_fields s) (code_fields s) (price_fields s) (count_fields s) (time_fields s) (limit_fields s) (agreement_fields s)
