-- How firm each promise is (RULE R13.2): two results that the promise of a callable function allows are equal, in what it answers and in what it
-- leaves of a lent buffer. Every callable function of every crate stands here, but for those of `streams`, whose answer is also the reader's or
-- the writer's (docs/PROMISES.md).
-- `crate.function.Reads.Post` is the promise as Rattle reads it from the contract in the source: of the arguments, the answer, and the
-- arguments afterwards.
use denote.RattleType.{RattleType}
use denote.Param.Laws.{Laws, IsCopy}
use mir.Syntax.{Dict, w64}
use mir.Val.{Fits}
use contract.Lifetimes.{Lfts}
use Rattle.std.specs.Prelude.{ℕ, ◌≡◌}
use Rattle.std.specs.declared.clone.Clone.{Ghosts}
use Rattle.codes.specs.Codes.{kind_number}
use Rattle.parties.specs.Words.{Side, Kind}
use Rattle.parties.specs.Parties.{by_side}
use Rattle.wire.specs.Exact.{Exact, ExactIn}
use Rattle.wire.proofs as wire
use Rattle.facts.proofs as facts
use Rattle.codes.proofs as codes
use Rattle.forms.proofs as forms
use Rattle.record.proofs as records
use Rattle.writing.proofs as writing
use Rattle.refusals.proofs as refusals
use Rattle.prices.proofs as prices
use Rattle.faults.proofs as faults
use Rattle.cases.proofs as cases
use Rattle.cut.proofs as cut
use Rattle.quotes.proofs as quotes
use Rattle.earlier.proofs as earlier
use Rattle.halves.proofs as halves
use Rattle.best.proofs as best
use Rattle.filling.proofs as filling
use Rattle.bands.proofs as bands
use Rattle.parties.proofs as parties
use Rattle.way.proofs as way
use Rattle.width.proofs as width
use Rattle.theory.proofs as theory
use Rattle.agreement.proofs as agreement
use Rattle.act.proofs as act
use Rattle.reasons.proofs as reasons
use Rattle.ruling.proofs as ruling
use Rattle.figures.proofs as figures
use Rattle.notices.proofs as notices
use Rattle.answer.proofs as answer
use Rattle.sheet.proofs as sheet
use Rattle.text.proofs as text
use Rattle.lines.proofs as lines
use Rattle.report.proofs as report
use Rattle.spelling.proofs as spelling
use Rattle.phrases.proofs as phrases
use Rattle.best_lines.proofs as best_lines
use Rattle.standing.proofs as standing
use Rattle.fillings.proofs as fillings
use Rattle.fill_report.proofs as fill_report
use Rattle.words.proofs as words
use Rattle.steps.proofs as steps
use Rattle.step_lines.proofs as step_lines
use Rattle.blame.proofs as blame
use Rattle.blame_lines.proofs as blame_lines
use Rattle.careful.proofs as careful
use Rattle.careful_lines.proofs as careful_lines
use Rattle.warnings.proofs as warnings
use Rattle.explanation.proofs as explanation
use Rattle.desk.proofs as desk
use Rattle.counter.proofs as counter
use Rattle.specimen.proofs as specimen
use Rattle.rows.proofs as rows

-- ---- wire
pub read_u16_exact : (κs : Lfts 1) → Exact (wire.read_u16.Reads.Post κs)
read_u16_exact = wire.Exact.read_u16_exact

pub read_u32_exact : (κs : Lfts 1) → Exact (wire.read_u32.Reads.Post κs)
read_u32_exact = wire.Exact.read_u32_exact

pub put_exact : (n : ℕ) (fits : Fits w64 n) (κs : Lfts 2) → ExactIn (λ a. a.0) (wire.put.Reads.Post n fits κs)
put_exact = wire.Exact.put_exact

pub put_u16_exact : (κs : Lfts 1) → ExactIn (λ a. a.0) (wire.put_u16.Reads.Post κs)
put_u16_exact = wire.Exact.put_u16_exact

pub put_u32_exact : (κs : Lfts 1) → ExactIn (λ a. a.0) (wire.put_u32.Reads.Post κs)
put_u32_exact = wire.Exact.put_u32_exact

-- ---- facts
pub price_of_exact : Exact (facts.price_of.Reads.Post tt)
price_of_exact = facts.Exact.price_of_exact

pub price_number_exact : Exact (facts.price_number.Reads.Post tt)
price_number_exact = facts.Exact.price_number_exact

pub moment_of_exact : Exact (facts.moment_of.Reads.Post tt)
moment_of_exact = facts.Exact.moment_of_exact

pub moment_number_exact : Exact (facts.moment_number.Reads.Post tt)
moment_number_exact = facts.Exact.moment_number_exact

pub violates_exact : Exact (facts.violates.Reads.Post tt)
violates_exact = facts.Exact.violates_exact

-- ---- codes
pub side_of_exact : Exact (codes.SideCoded.from_byte.Reads.Post tt)
side_of_exact = codes.Exact.side_of_exact

pub side_number_exact : Exact (codes.SideCoded.byte.Reads.Post tt)
side_number_exact = codes.Exact.side_number_exact

pub kind_of_exact : Exact (codes.KindCoded.from_byte.Reads.Post tt)
kind_of_exact = codes.Exact.kind_of_exact

pub kind_number_exact : Exact (codes.KindCoded.byte.Reads.Post tt)
kind_number_exact = codes.Exact.kind_number_exact

pub day_of_exact : Exact (codes.DayCoded.from_byte.Reads.Post tt)
day_of_exact = codes.Exact.day_of_exact

pub day_number_exact : Exact (codes.DayCoded.byte.Reads.Post tt)
day_number_exact = codes.Exact.day_number_exact

pub agreement_of_exact : Exact (codes.AgreementCoded.from_byte.Reads.Post tt)
agreement_of_exact = codes.Exact.agreement_of_exact

pub agreement_number_exact : Exact (codes.AgreementCoded.byte.Reads.Post tt)
agreement_number_exact = codes.Exact.agreement_number_exact

pub flag_of_exact : Exact (codes.BoolCoded.from_byte.Reads.Post tt)
flag_of_exact = codes.Exact.flag_of_exact

pub flag_number_exact : Exact (codes.BoolCoded.byte.Reads.Post tt)
flag_number_exact = codes.Exact.flag_number_exact

-- ---- forms
pub is_length_exact : Exact (forms.is_length.Reads.Post tt)
is_length_exact = forms.Exact.is_length_exact

pub is_known_exact : Exact (forms.is_known.Reads.Post tt)
is_known_exact = forms.Exact.is_known_exact

pub length_of_exact : Exact (forms.length_of.Reads.Post tt)
length_of_exact = forms.Exact.length_of_exact

pub kind_of_form_exact : Exact (forms.kind_of.Reads.Post tt)
kind_of_form_exact = forms.Exact.kind_of_exact

pub differential_of_exact : Exact (forms.differential_of.Reads.Post tt)
differential_of_exact = forms.Exact.differential_of_exact

pub form_of_exact : (κs : Lfts 1) → Exact (forms.form_of.Reads.Post κs)
form_of_exact = forms.Exact.form_of_exact

pub put_form_exact : (κs : Lfts 1) → ExactIn (λ a. a.0) (forms.put_form.Reads.Post κs)
put_form_exact = forms.Exact.put_form_exact

-- ---- record, writing
pub trade_of_exact : (κs : Lfts 1) → Exact (records.trade_of.Reads.Post κs)
trade_of_exact = records.Exact.trade_of_exact

pub market_of_exact : (κs : Lfts 1) → Exact (records.market_of.Reads.Post κs)
market_of_exact = records.Exact.market_of_exact

pub request_of_exact : (κs : Lfts 1) → Exact (records.request_of.Reads.Post κs)
request_of_exact = records.Exact.request_of_exact

pub buyer_kind_exact : (κs : Lfts 1) → Exact (records.buyer_kind.Reads.Post κs)
buyer_kind_exact = records.Exact.buyer_kind_exact

pub seller_kind_exact : (κs : Lfts 1) → Exact (records.seller_kind.Reads.Post κs)
seller_kind_exact = records.Exact.seller_kind_exact

pub buyer_of_exact : (κs : Lfts 1) → Exact (records.buyer_of.Reads.Post κs)
buyer_of_exact = records.Exact.buyer_of_exact

pub seller_of_exact : (κs : Lfts 1) → Exact (records.seller_of.Reads.Post κs)
seller_of_exact = records.Exact.seller_of_exact

pub settlement_of_exact : (κs : Lfts 1) → Exact (records.settlement_of.Reads.Post κs)
settlement_of_exact = records.Exact.settlement_of_exact

pub facts_of_exact : (κs : Lfts 1) → Exact (records.facts_of.Reads.Post κs)
facts_of_exact = records.Exact.facts_of_exact

pub put_facts_exact : (κs : Lfts 1) → ExactIn (λ a. a.0) (writing.put_facts.Reads.Post κs)
put_facts_exact = writing.Exact.put_facts_exact

-- ---- refusals, prices, faults
pub head_fault_exact : (κs : Lfts 1) → Exact (refusals.head_fault.Reads.Post κs)
head_fault_exact = refusals.Exact.head_fault_exact

pub coded_ok_exact : (κs : Lfts 1) → Exact (refusals.coded_ok.Reads.Post κs)
coded_ok_exact = refusals.Exact.coded_ok_exact

pub unless_exact : Exact (refusals.unless.Reads.Post tt)
unless_exact = refusals.Exact.unless_exact

pub prices_ok_exact : Exact (prices.prices_ok.Reads.Post tt)
prices_ok_exact = prices.Exact.prices_ok_exact

pub counts_ok_exact : Exact (prices.counts_ok.Reads.Post tt)
counts_ok_exact = prices.Exact.counts_ok_exact

pub codes_at_exact : (κs : Lfts 1) → Exact (faults.codes_at.Reads.Post κs)
codes_at_exact = faults.Exact.codes_at_exact

pub later_fault_exact : Exact (faults.later_fault.Reads.Post tt)
later_fault_exact = faults.Exact.later_fault_exact

pub fault_exact : Exact (faults.fault.Reads.Post tt)
fault_exact = faults.Exact.fault_exact

-- ---- cases
pub check_known_exact : (κs : Lfts 1) → Exact (cases.check_known.Reads.Post κs)
check_known_exact = cases.Exact.check_known_exact

pub check_case_exact : (κs : Lfts 1) → Exact (cases.check_case.Reads.Post κs)
check_case_exact = cases.Exact.check_case_exact

pub read_case_exact : (κs : Lfts 1) → Exact (cases.read_case.Reads.Post κs)
read_case_exact = cases.Exact.read_case_exact

pub write_case_exact : (κs : Lfts 1) → ExactIn (λ a. a.1.0) (cases.write_case.Reads.Post κs)
write_case_exact = cases.Exact.write_case_exact

-- ---- quotes
pub posted_at_exact : (κs : Lfts 1) → Exact (quotes.posted_at.Reads.Post κs)
posted_at_exact = quotes.Exact.posted_at_exact

pub check_quotes_exact : (κs : Lfts 1) → Exact (quotes.check_quotes.Reads.Post κs)
check_quotes_exact = quotes.Exact.check_quotes_exact

-- ---- halves
pub half_of_exact : Exact (halves.half_of.Reads.Post tt)
half_of_exact = halves.Exact.half_of_exact

pub better_exact : Exact (halves.better.Reads.Post tt)
better_exact = halves.Exact.better_exact

pub size_if_exact : Exact (halves.size_if.Reads.Post tt)
size_if_exact = halves.Exact.size_if_exact

pub capped_exact : Exact (halves.capped.Reads.Post tt)
capped_exact = halves.Exact.capped_exact

-- ---- earlier
pub count_before_exact : (κs : Lfts 1) → Exact (earlier.count_before.Reads.Post κs)
count_before_exact = earlier.Exact.count_before_exact

pub quotes_before_exact : (κs : Lfts 1) → Exact (earlier.quotes_before.Reads.Post κs)
quotes_before_exact = earlier.Exact.quotes_before_exact

pub number_ok_exact : (κs : Lfts 1) → Exact (earlier.number_ok.Reads.Post κs)
number_ok_exact = earlier.Exact.number_ok_exact

-- ---- best
pub last_before_exact : (κs : Lfts 1) → Exact (best.last_before.Reads.Post κs)
last_before_exact = best.Exact.last_before_exact

pub find_best_exact : (κs : Lfts 1) → Exact (best.find_best.Reads.Post κs)
find_best_exact = best.Exact.find_best_exact

pub count_and_find_exact : (κs : Lfts 1) → Exact (best.count_and_find.Reads.Post κs)
count_and_find_exact = best.Exact.count_and_find_exact

-- ---- filling
pub check_fill_exact : (κs : Lfts 2) → Exact (filling.check_fill.Reads.Post κs)
check_fill_exact = filling.Exact.check_fill_exact

pub fill_case_exact : (κs : Lfts 2) → ExactIn (λ a. a.1.0) (filling.fill_case.Reads.Post κs)
fill_case_exact = filling.Exact.fill_case_exact

-- ---- bands
pub band_of_exact : Exact (bands.band_of.Reads.Post tt)
band_of_exact = bands.Exact.band_of_exact

pub obvious_adjustment_exact : Exact (bands.obvious_adjustment.Reads.Post tt)
obvious_adjustment_exact = bands.Exact.obvious_adjustment_exact

pub in_error_exact : Exact (bands.in_error.Reads.Post tt)
in_error_exact = bands.Exact.in_error_exact

pub moved_exact : Exact (bands.moved.Reads.Post tt)
moved_exact = bands.Exact.moved_exact

-- ---- parties
pub is_customer_exact : Exact (parties.is_customer.Reads.Post tt)
is_customer_exact = parties.Exact.is_customer_exact

pub is_maker_exact : Exact (parties.is_maker.Reads.Post tt)
is_maker_exact = parties.Exact.is_maker_exact

-- of any type that is copied
pub by_side_exact : (T : RattleType) (laws : Laws T) (copied : IsCopy T) (cloned : Ghosts T.Denot) (dict : Dict) (κs : Lfts 1)
    → Exact (parties.by_side.Reads.Post T laws copied cloned dict κs)
by_side_exact = parties.Exact.by_side_exact

-- the kind in error, and the other party's, in the page's numbers
pub kind_number_by_side : (side : Side) (buyer seller : Kind) → kind_number (by_side side buyer seller) ≡ by_side side (kind_number buyer) (kind_number seller)
kind_number_by_side = parties.Sides.kind_number_by_side

pub any_customer_exact : Exact (parties.any_customer.Reads.Post tt)
any_customer_exact = parties.Exact.any_customer_exact

-- ---- width
pub is_wide_exact : Exact (width.is_wide.Reads.Post tt)
is_wide_exact = width.Exact.is_wide_exact

-- ---- way, theory, agreement
pub is_trade_date_exact : Exact (way.is_trade_date.Reads.Post tt)
is_trade_date_exact = way.Exact.is_trade_date_exact

pub is_next_day_exact : Exact (way.is_next_day.Reads.Post tt)
is_next_day_exact = way.Exact.is_next_day_exact

pub no_later_exact : Exact (way.no_later.Reads.Post tt)
no_later_exact = way.Exact.no_later_exact

pub within_exact : Exact (way.within.Reads.Post tt)
within_exact = way.Exact.within_exact

pub obvious_time_exact : Exact (way.obvious_time.Reads.Post tt)
obvious_time_exact = way.Exact.obvious_time_exact

pub find_way_exact : Exact (way.find_way.Reads.Post tt)
find_way_exact = way.Exact.find_way_exact

pub find_theory_exact : Exact (theory.find_theory.Reads.Post tt)
find_theory_exact = theory.Exact.find_theory_exact

pub tp_number_exact : Exact (theory.tp_number.Reads.Post tt)
tp_number_exact = theory.Exact.tp_number_exact

pub origin_number_exact : Exact (theory.origin_number.Reads.Post tt)
origin_number_exact = theory.Exact.origin_number_exact

pub agreement_time_exact : Exact (agreement.agreement_time.Reads.Post tt)
agreement_time_exact = agreement.Exact.agreement_time_exact

pub in_time_exact : Exact (agreement.in_time.Reads.Post tt)
in_time_exact = agreement.Exact.in_time_exact

pub may_nullify_exact : Exact (agreement.may_nullify.Reads.Post tt)
may_nullify_exact = agreement.Exact.may_nullify_exact

pub heed_exact : Exact (agreement.heed.Reads.Post tt)
heed_exact = agreement.Exact.heed_exact

pub accepted_in_time_exact : Exact (agreement.accepted_in_time.Reads.Post tt)
accepted_in_time_exact = agreement.Exact.accepted_in_time_exact

-- ---- act, reasons, ruling
pub minimum_of_exact : Exact (act.minimum_of.Reads.Post tt)
minimum_of_exact = act.Exact.minimum_of_exact

pub opening_tested_exact : Exact (act.opening_tested.Reads.Post tt)
opening_tested_exact = act.Exact.opening_tested_exact

pub find_act_exact : Exact (act.find_act.Reads.Post tt)
find_act_exact = act.Exact.find_act_exact

pub outcome_of_exact : Exact (reasons.outcome_of.Reads.Post tt)
outcome_of_exact = reasons.Exact.outcome_of_exact

pub rule_exact : (κs : Lfts 1) → Exact (ruling.rule.Reads.Post κs)
rule_exact = ruling.Exact.rule_exact

-- ---- figures, notices
pub judge_exact : (κs : Lfts 1) → Exact (figures.judge.Reads.Post κs)
judge_exact = figures.Exact.judge_exact

pub put_answer_exact : (κs : Lfts 1) → ExactIn (λ a. a.0) (notices.put_answer.Reads.Post κs)
put_answer_exact = notices.Exact.put_answer_exact

-- ---- cut
pub length_at_exact : (κs : Lfts 1) → Exact (cut.length_at.Reads.Post κs)
length_at_exact = cut.Exact.length_at_exact

pub count_cases_exact : (κs : Lfts 1) → Exact (cut.count_cases.Reads.Post κs)
count_cases_exact = cut.Exact.count_cases_exact

pub said_length_exact : (κs : Lfts 1) → Exact (cut.said_length.Reads.Post κs)
said_length_exact = cut.Exact.said_length_exact

pub start_of_exact : (κs : Lfts 1) → Exact (cut.start_of.Reads.Post κs)
start_of_exact = cut.Exact.start_of_exact

-- ---- answer, sheet
pub answer_case_exact : (κs : Lfts 2) → ExactIn (λ a. a.0) (answer.answer_case.Reads.Post κs)
answer_case_exact = answer.Exact.answer_case_exact

pub rule_case_exact : (κs : Lfts 2) → ExactIn (λ a. a.1.0) (answer.rule_case.Reads.Post κs)
rule_case_exact = answer.Exact.rule_case_exact

pub whole_cases_exact : (κs : Lfts 1) → Exact (sheet.whole_cases.Reads.Post κs)
whole_cases_exact = sheet.Exact.whole_cases_exact

pub rule_sheet_exact : (κs : Lfts 2) → ExactIn (λ a. a.1.0) (sheet.rule_sheet.Reads.Post κs)
rule_sheet_exact = sheet.Exact.rule_sheet_exact

-- ---- text, lines, report
pub add_decimal_exact : (κs : Lfts 1) → ExactIn (λ a. a.0) (text.add_decimal.Reads.Post κs)
add_decimal_exact = text.Exact.add_decimal_exact

pub add_word_exact : (κs : Lfts 2) → ExactIn (λ a. a.0) (text.add_word.Reads.Post κs)
add_word_exact = text.Exact.add_word_exact

pub add_byte_exact : (κs : Lfts 1) → ExactIn (λ a. a.0) (text.add_byte.Reads.Post κs)
add_byte_exact = text.Exact.add_byte_exact

pub add_price_exact : (κs : Lfts 1) → ExactIn (λ a. a.0) (text.add_price.Reads.Post κs)
add_price_exact = text.Exact.add_price_exact

pub put_ruled_exact : (κs : Lfts 1) → ExactIn (λ a. a.0) (lines.put_ruled.Reads.Post κs)
put_ruled_exact = lines.Exact.put_ruled_exact

pub put_refused_exact : (κs : Lfts 1) → ExactIn (λ a. a.0) (lines.put_refused.Reads.Post κs)
put_refused_exact = lines.Exact.put_refused_exact

pub put_header_exact : (κs : Lfts 1) → ExactIn (λ a. a.0) (lines.put_header.Reads.Post κs)
put_header_exact = lines.Exact.put_header_exact

pub put_end_exact : (κs : Lfts 1) → ExactIn (λ a. a.0) (lines.put_end.Reads.Post κs)
put_end_exact = lines.Exact.put_end_exact

pub put_sheet_exact : (κs : Lfts 1) → ExactIn (λ a. a.0) (lines.put_sheet.Reads.Post κs)
put_sheet_exact = lines.Exact.put_sheet_exact

pub print_sheet_exact : (κs : Lfts 2) → ExactIn (λ a. a.1.0) (report.print_sheet.Reads.Post κs)
print_sheet_exact = report.Exact.print_sheet_exact

pub print_piece_exact : (κs : Lfts 2) → ExactIn (λ a. a.1.1.0) (report.print_piece.Reads.Post κs)
print_piece_exact = report.Exact.print_piece_exact

-- ---- spelling
pub read_time_exact : (κs : Lfts 1) → Exact (spelling.read_time.Reads.Post κs)
read_time_exact = spelling.Exact.read_time_exact

pub add_time_exact : (κs : Lfts 1) → ExactIn (λ a. a.0) (spelling.add_time.Reads.Post κs)
add_time_exact = spelling.Exact.add_time_exact

pub add_dollars_exact : (κs : Lfts 1) → ExactIn (λ a. a.0) (spelling.add_dollars.Reads.Post κs)
add_dollars_exact = spelling.Exact.add_dollars_exact

-- ---- phrases
pub add_refusal_exact : (κs : Lfts 1) → ExactIn (λ a. a.0) (phrases.add_refusal.Reads.Post κs)
add_refusal_exact = phrases.Exact.add_refusal_exact

-- ---- best_lines
pub add_head_exact : (κs : Lfts 1) → ExactIn (λ a. a.0) (best_lines.add_head.Reads.Post κs)
add_head_exact = best_lines.Exact.add_head_exact

pub add_sayer_exact : (κs : Lfts 1) → ExactIn (λ a. a.0) (best_lines.add_sayer.Reads.Post κs)
add_sayer_exact = best_lines.Exact.add_sayer_exact

-- ---- standing
pub print_best_exact : (κs : Lfts 3) → ExactIn (λ a. a.1.1.0) (standing.print_best.Reads.Post κs)
print_best_exact = standing.Exact.print_best_exact

-- ---- fillings
pub check_filling_exact : (κs : Lfts 2) → Exact (fillings.check_filling.Reads.Post κs)
check_filling_exact = fillings.Exact.check_filling_exact

pub fill_sheet_exact : (κs : Lfts 2) → ExactIn (λ a. a.1.0) (fillings.fill_sheet.Reads.Post κs)
fill_sheet_exact = fillings.Exact.fill_sheet_exact

-- ---- fill_report
pub print_filling_exact : (κs : Lfts 3) → ExactIn (λ a. a.1.1.0) (fill_report.print_filling.Reads.Post κs)
print_filling_exact = fill_report.Exact.print_filling_exact

-- ---- words
pub add_row_exact : (κs : Lfts 1) → ExactIn (λ a. a.0) (words.add_row.Reads.Post κs)
add_row_exact = words.Exact.add_row_exact

pub bytes_at_exact : Exact (words.bytes_at.Reads.Post tt)
bytes_at_exact = words.Exact.bytes_at_exact

pub said_exact : Exact (words.said.Reads.Post tt)
said_exact = words.Exact.said_exact

pub told_exact : Exact (words.told.Reads.Post tt)
told_exact = words.Exact.told_exact

pub found_exact : Exact (words.found.Reads.Post tt)
found_exact = words.Exact.found_exact

pub add_index_exact : (κs : Lfts 1) → ExactIn (λ a. a.0) (words.add_index.Reads.Post κs)
add_index_exact = words.Exact.add_index_exact

-- ---- steps, step_lines
pub find_steps_exact : Exact (steps.find_steps.Reads.Post tt)
find_steps_exact = steps.Exact.find_steps_exact

pub add_steps_exact : (κs : Lfts 1) → ExactIn (λ a. a.0) (step_lines.add_steps.Reads.Post κs)
add_steps_exact = step_lines.Exact.add_steps_exact

-- ---- blame, blame_lines
pub find_blame_exact : (κs : Lfts 1) → Exact (blame.find_blame.Reads.Post κs)
find_blame_exact = blame.Exact.find_blame_exact

pub add_blame_exact : (κs : Lfts 2) → ExactIn (λ a. a.0) (blame_lines.add_blame.Reads.Post κs)
add_blame_exact = blame_lines.Exact.add_blame_exact

-- ---- careful, careful_lines
pub find_cautions_exact : (κs : Lfts 1) → Exact (careful.find_cautions.Reads.Post κs)
find_cautions_exact = careful.Exact.find_cautions_exact

pub any_caution_exact : Exact (careful.any_caution.Reads.Post tt)
any_caution_exact = careful.Exact.any_caution_exact

pub add_cautions_exact : (κs : Lfts 1) → ExactIn (λ a. a.0) (careful_lines.add_cautions.Reads.Post κs)
add_cautions_exact = careful_lines.Exact.add_cautions_exact

-- ---- warnings, explanation
pub warn_piece_exact : (κs : Lfts 2) → ExactIn (λ a. a.1.1.0) (warnings.warn_piece.Reads.Post κs)
warn_piece_exact = warnings.Exact.warn_piece_exact

pub explain_case_exact : (κs : Lfts 2) → ExactIn (λ a. a.1.0) (explanation.explain_case.Reads.Post κs)
explain_case_exact = explanation.Exact.explain_case_exact

pub explain_piece_exact : (κs : Lfts 2) → ExactIn (λ a. a.1.1.1.0) (explanation.explain_piece.Reads.Post κs)
explain_piece_exact = explanation.Exact.explain_piece_exact

pub count_pieces_exact : (κs : Lfts 1) → Exact (explanation.count_pieces.Reads.Post κs)
count_pieces_exact = explanation.Exact.count_pieces_exact

-- ---- desk
pub desk_check_case_exact : (κs : Lfts 1) → Exact (desk.desk_check_case.Reads.Post κs)
desk_check_case_exact = desk.Exact.desk_check_case_exact

pub desk_rule_case_exact : (κs : Lfts 2) → ExactIn (λ a. a.1.0) (desk.desk_rule_case.Reads.Post κs)
desk_rule_case_exact = desk.Exact.desk_rule_case_exact

pub desk_rule_sheet_exact : (κs : Lfts 2) → ExactIn (λ a. a.1.0) (desk.desk_rule_sheet.Reads.Post κs)
desk_rule_sheet_exact = desk.Exact.desk_rule_sheet_exact

pub desk_print_sheet_exact : (κs : Lfts 2) → ExactIn (λ a. a.1.0) (desk.desk_print_sheet.Reads.Post κs)
desk_print_sheet_exact = desk.Exact.desk_print_sheet_exact

pub desk_explain_case_exact : (κs : Lfts 2) → ExactIn (λ a. a.1.0) (counter.desk_explain_case.Reads.Post κs)
desk_explain_case_exact = counter.Exact.desk_explain_case_exact

pub desk_quotes_before_exact : (κs : Lfts 1) → Exact (desk.desk_quotes_before.Reads.Post κs)
desk_quotes_before_exact = desk.Exact.desk_quotes_before_exact

pub desk_best_quotes_exact : (κs : Lfts 1) → Exact (desk.desk_best_quotes.Reads.Post κs)
desk_best_quotes_exact = desk.Exact.desk_best_quotes_exact

pub desk_fill_case_exact : (κs : Lfts 2) → ExactIn (λ a. a.1.0) (desk.desk_fill_case.Reads.Post κs)
desk_fill_case_exact = desk.Exact.desk_fill_case_exact

-- ---- specimen
pub good_exact : Exact (specimen.good.Reads.Post tt)
good_exact = specimen.Exact.good_exact

pub byte_exact : Exact (specimen.byte.Reads.Post tt)
byte_exact = specimen.Exact.byte_exact

pub word_exact : Exact (specimen.word.Reads.Post tt)
word_exact = specimen.Exact.word_exact

pub good_two_exact : Exact (specimen.good_two.Reads.Post tt)
good_two_exact = specimen.Exact.good_two_exact

-- ---- rows
pub change_exact : (κs : Lfts 2) → ExactIn (λ a. a.0) (rows.change.Reads.Post κs)
change_exact = rows.Exact.change_exact
