-- Each callable function's promise, as Rattle reads it from the contract, allows one result.
use mathlib.Core.Path.{sym, ◌∙◌}
use contract.Lifetimes.{Lfts}
use Rattle.wire.specs.Exact.{Exact, ExactIn}
use Rattle.desk.proofs.desk_check_case.Reads as check_case
use Rattle.desk.proofs.desk_rule_case.Reads as rule_case
use Rattle.desk.proofs.desk_rule_sheet.Reads as rule_sheet
use Rattle.desk.proofs.desk_print_sheet.Reads as print_sheet
use Rattle.desk.proofs.desk_quotes_before.Reads as quotes_before
use Rattle.desk.proofs.desk_best_quotes.Reads as best_quotes
use Rattle.desk.proofs.desk_fill_case.Reads as fill_case

pub desk_check_case_exact : (κs : Lfts 1) → Exact (check_case.Post κs)
desk_check_case_exact κs a e e' r r' p q = p ∙ sym q

pub desk_rule_case_exact : (κs : Lfts 2) → ExactIn (λ a. a.1.0) (rule_case.Post κs)
desk_rule_case_exact κs a e e' r r' p q = (p.0 ∙ sym q.0, p.1 ∙ sym q.1)

pub desk_rule_sheet_exact : (κs : Lfts 2) → ExactIn (λ a. a.1.0) (rule_sheet.Post κs)
desk_rule_sheet_exact κs a e e' r r' p q = (p.0 ∙ sym q.0, p.1 ∙ sym q.1)

pub desk_print_sheet_exact : (κs : Lfts 2) → ExactIn (λ a. a.1.0) (print_sheet.Post κs)
desk_print_sheet_exact κs a e e' r r' p q = (p.0 ∙ sym q.0, p.1 ∙ sym q.1)

pub desk_quotes_before_exact : (κs : Lfts 1) → Exact (quotes_before.Post κs)
desk_quotes_before_exact κs a e e' r r' p q = p ∙ sym q

pub desk_best_quotes_exact : (κs : Lfts 1) → Exact (best_quotes.Post κs)
desk_best_quotes_exact κs a e e' r r' p q = p ∙ sym q

pub desk_fill_case_exact : (κs : Lfts 2) → ExactIn (λ a. a.1.0) (fill_case.Post κs)
desk_fill_case_exact κs a e e' r r' p q = (p.0 ∙ sym q.0, p.1 ∙ sym q.1)
