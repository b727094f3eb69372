-- What is proved of explanations (RULE R17): every byte string has one, and what it tells is so. First of the definitions, then, as "so every call",
-- what the promises of the functions allow.
use Rattle.std.specs.Prelude.{ℕ, ◌-◌, ◌≤◌, ◌<◌, ◌≡◌, Bool, true, false, List, ◌++◌, length, take, leb, eqb, Some, None}
use Rattle.std.proofs.Common.{sym, ap, ◌∙◌}
use contract.Lifetimes.{Lfts}
use Rattle.std.specs.Borrow.{Bor, MutBor}
use Rattle.wire.specs.Laid.{laid, row}
use Rattle.wire.specs.Numbers.{number_at}
use Rattle.wire.proofs.Rows.{row_same}
use Rattle.record.specs.Record.{facts_of}
use Rattle.refusals.specs.Tests.{head_fault_of}
use Rattle.cases.specs.Cases.{Formed, refusal_of, reading_of}
use Rattle.bands.specs.Table.{band_of}
use Rattle.way.specs.Way.{way_of}
use Rattle.theory.specs.Theory.{quote_for, too_wide, theory_of}
use Rattle.agreement.specs.Agreed.{heeded_of}
use Rattle.ruling.specs.Ruling.{ruling_of}
use Rattle.figures.specs.Figures.{figures_of}
use Rattle.sheet.specs.Sheet.{case_at, cases_in, ruled_in, whole_cases}
use Rattle.lines.specs.Lines.{end_line, sheet_line}
use Rattle.words.specs.Rows.{rows_text}
use Rattle.steps.specs.Words.{Mills, Contracts, Some, None, Side, Kind, Seconds, Request, Form, Market, Settlement, Facts, Way, Quoted, Official, Source}
use Rattle.steps.specs.declared.Steps.{Steps}
use Rattle.steps.specs.declared.Judged.{Judged}
use Rattle.steps.specs.declared.Reached.TheVariants.{Priced}
use Rattle.steps.specs.Tried.{tried_of, open_of}
use Rattle.steps.specs.Found.{gap_of, looked_of, floor_of, error_of, ignored_why}
use Rattle.steps.specs.Steps.{steps_of}
use Rattle.steps.specs.Ruling.{ruling_from}
use Rattle.steps.proofs.True.{counts, There}
use Rattle.steps.proofs.Theory.{told_wide}
use Rattle.steps.proofs as steps
use Rattle.step_lines.specs.Explained.{ruled_rows}
use Rattle.told.specs.Words.{Figures}
use Rattle.told.specs.Stands.{EachStands}
use Rattle.told.proofs as told
use Rattle.blame.specs.declared.Field.{Field}
use Rattle.blame.specs.Fields.{field_ok, fields_of, blame_of, number_of}
use Rattle.blame.proofs.Order.{In, Stands}
use Rattle.blame.proofs as blame
use Rattle.blame_lines.specs.Lines.{blame_rows}
use Rattle.careful.specs.declared.Warning.{Warning}
use Rattle.careful.specs.declared.Cautions.{Cautions}
use Rattle.careful.specs.Careful.{turned_at, caution_at, no_cautions, cautions_in, cautions_of, any_caution}
use Rattle.careful.proofs.Laws.{Told}
use Rattle.careful.proofs as careful
use Rattle.careful_lines.specs.Lines.{careful_rows}
use Rattle.warnings.specs.Warned.{warned_text, warned_case, warned_piece, warnings_of}
use Rattle.warnings.proofs as warnings
use Rattle.explanation.specs.Words.{Wanted}
use Rattle.explanation.specs.Explained.{told_rows, explained_rows, explained_of}
use Rattle.explanation.specs.Pieces.{desk_alone, wanted, indexed, case_piece, explained_piece, explanation_of}
use Rattle.explanation.proofs as explanation
use Rattle.counter.proofs as counter
use Rattle.demands.specs.Why as why

-- ---- the ruling and the steps that are told of it

-- The ruling is made from the steps that are told: no explanation tells another story than the ruling's (RULE R17.4).
pub ruling_made : (f : Facts) → ruling_from (steps_of f) ≡ ruling_of f
ruling_made = steps.Made.ruling_made

-- The way told as open is the ruling's (RULE R17.5).
pub way_tried : (executed : Seconds) (q : Request) (kind : Kind) → open_of (tried_of executed q kind) ≡ way_of executed q kind
way_tried = steps.Made.way_tried

-- Where the steps came to a TP, it is the ruling's (RULE R17.6).
pub tp_told : (s : Steps) (j : Judged) → s.reached ≡ Priced j → (ruling_from s).tp ≡ Some j.source
tp_told = steps.Made.tp_told

-- Head and contracts are told from the ruling's own figures (RULE R17.4, R17.10).
pub ruling_told : (f : Facts) → ruled_rows (steps_of f) (figures_of (ruling_from (steps_of f))) ≡ ruled_rows (steps_of f) (figures_of (ruling_of f))
ruling_told = told.Told.ruling_told

-- ---- every number and its place

-- Every number that is told with a place stands at that place, and the record has it: of any bytes that have the form of a case (RULE R17.3).
pub told_stand : (s : List ℕ) → Formed s → (n : Figures) → EachStands s (ruled_rows (steps_of (facts_of s)) n)
told_stand = told.Told.told_stand

-- So it is of every case that is accepted (RULE R17.3).
pub told_accepted : (s : List ℕ) → (reading_of s).refusal ≡ 0 → (n : Figures) → EachStands s (ruled_rows (steps_of (reading_of s).facts) n)
told_accepted = told.Told.told_accepted

-- The careful lines are told so of any bytes, and with them the whole explanation of a case that is accepted (RULE R17.3, R17.12).
pub careful_stand : (s : List ℕ) → EachStands s (careful_rows (cautions_of s))
careful_stand = why.careful_stand

pub explained_stand : (s : List ℕ) → refusal_of s ≡ 0 → EachStands s (explained_rows s)
explained_stand = why.explained_stand

-- ---- what is said of the numbers

-- A quote's price and size are those of the quote on the side in error; an official's price is the official's; where there is no TP the official gave none
-- (RULE R17.6).
module _ (form : Form) (side : Side) (m : Market) where
  pub quoted_told : (s : Source) (n : Contracts) → theory_of form side m ≡ Some s → s.origin ≡ Quoted n
      → ((quote_for side m).price ≡ Some s.price) × ((quote_for side m).size ≡ n)
  quoted_told = steps.Theory.quoted_told form side m

  pub official_told : (s : Source) → theory_of form side m ≡ Some s → s.origin ≡ Official → m.official ≡ Some s.price
  official_told = steps.Theory.official_told form side m

  pub no_price_told : theory_of form side m ≡ None → m.official ≡ None
  no_price_told = steps.Theory.none_told form side m

  -- Quotes are told as wide exactly where TP passed them over as too wide.
  pub spread_told : told_wide (looked_of form side m).spread ≡ too_wide form m
  spread_told = steps.Theory.spread_told form side m

-- What is shown as "at least" is what was tested, of prices that test 5 passes: the offer against the sum that is shown (RULE R17.6), the higher price against the
-- sum that is shown (RULE R17.7).
pub gap_tested : (differential bid offer : Mills) → differential.0 ≤ 9999999 → bid.0 ≤ 9999999
    → (gap_of differential bid offer).wide ≡ leb (gap_of differential bid offer).reach.0 (gap_of differential bid offer).offer.0
gap_tested = why.gap_tested

pub sum_tested : (side : Side) (execution tp : Mills) (way : Way) → execution.0 ≤ 9999999 → tp.0 ≤ 9999999
    → (error_of side execution tp way).wrong ≡ leb (error_of side execution tp way).reach.0 (error_of side execution tp way).high.0
sum_tested = why.sum_tested

-- The row of the table that is told is TP's: TP lies between its lowest and its highest (RULE R17.7).
pub row_holds : (tp : Mills) → tp.0 ≤ 9999999 → ((floor_of tp).0 ≤ tp.0) × (tp.0 ≤ (band_of tp).top.0)
row_holds = steps.Row.row_holds

-- An agreement is told to count exactly where it does (RULE R17.8); a price agreed on is there, by refusal 9.
pub ignored_why_lem : (s : Settlement) (way : Way) (customer : Bool) → There s.agreement s.agreed
    → eqb (ignored_why s way customer) 0 ≡ counts (heeded_of s way customer)
ignored_why_lem = steps.True.ignored_why_lem

-- ---- the field that is blamed (RULE R17.11)

-- Its number is the refusal's, whatever the bytes.
pub blamed_number : (s : List ℕ) → number_of (blame_of s) ≡ refusal_of s
blamed_number = blame.Numbers.blamed_number

pub told_number : (s : List ℕ) (f : Field) → blame_of s ≡ Some f → f.test ≡ refusal_of s
told_number = blame.Numbers.told_number

-- None is blamed exactly where the case is accepted.
pub sound_accepted : (s : List ℕ) → (blame_of s ≡ None → refusal_of s ≡ 0) × (refusal_of s ≡ 0 → blame_of s ≡ None)
sound_accepted s = (blame.Numbers.sound_accepted s, blame.Order.accepted_sound s)

module _ (s : List ℕ) (f : Field) (h : blame_of s ≡ Some f) where
  -- It is one of the record's fields, and out of its bounds.
  pub told_bad : In f (fields_of s) × (field_ok f ≡ false)
  told_bad = blame.Order.told_bad s f h

  -- Its number stands at the place told.
  pub told_stands : Stands s f
  told_stands = blame.Order.told_stands s f h

  -- It is the first in the record's order that breaks its test.
  pub first_in_order : (g : Field) → In g (fields_of s) → g.test ≡ f.test → g.at < f.at → field_ok g ≡ true
  first_in_order = blame.Order.first_in_order s f h

-- ---- what to be careful of (RULE R17.12)

-- A price that reads the same both ways has no caution, nor has none.
module _ (s : List ℕ) (i : ℕ) where
  pub same_fine : turned_at s i ≡ number_at 4 s i → caution_at s i ≡ None
  same_fine = careful.Laws.same_fine s i

  pub none_fine : number_at 4 s i ≡ 4294967295 → caution_at s i ≡ None
  none_fine = careful.Laws.none_fine s i

  -- What a caution tells is so: the price stands at its place, the other is the one there turned, both and the execution are prices, and the turned one is nearer
  -- to the execution.
  pub told_truly : (w : Warning) → caution_at s i ≡ Some w → Told s i w
  told_truly = careful.Laws.told_truly s i

-- Bytes refused with 1 or 2 have no caution; all others are asked for their five prices, whatever a later test says.
pub only_cases : (s : List ℕ) → (head_fault_of s ≡ 0 → ⊥) → cautions_of s ≡ no_cautions
only_cases = careful.Laws.only_cases

pub every_case : (s : List ℕ) → head_fault_of s ≡ 0 → cautions_of s ≡ cautions_in s
every_case = careful.Laws.every_case

-- Where none is told there is none.
pub none_careful : (c : Cautions) → any_caution c ≡ false → c ≡ no_cautions
none_careful = careful.Laws.none_told

-- ---- a case

-- An accepted case is told by its steps with the ruling's figures (RULE R17.4), a refused one by the field that is blamed (RULE R17.11).
module _ (s : List ℕ) where
  pub ruled_told : refusal_of s ≡ 0 → told_rows s ≡ ruled_rows (steps_of (facts_of s)) (figures_of (ruling_of (facts_of s)))
  ruled_told h = sym (explanation.Told.told_ruled s h)

  pub refused_told : (refusal_of s ≡ 0 → ⊥) → told_rows s ≡ blame_rows s (blame_of s)
  refused_told h = sym (explanation.Told.told_refused s h)

  -- After that comes what to be careful of, of either (RULE R17.12).
  pub careful_last : explained_of s ≡ rows_text (told_rows s ++ careful_rows (cautions_of s))
  careful_last = why.careful_last s

-- ---- a sheet (RULE R17.1)

-- Its explanation is the line for the desk, each case that is asked for, and END.
pub sheet_explained : (s : List ℕ) (want : Wanted) → whole_cases s ≡ true
    → explanation_of s want ≡ desk_alone ++ (row (λ k. case_piece want k (case_at s k)) (cases_in s) ++ end_line (ruled_in s (cases_in s)) (cases_in s - ruled_in s (cases_in s)))
sheet_explained = why.sheet_explained

-- Of a sheet refused whole it is the one line of its report.
pub refused_explained : (s : List ℕ) (want : Wanted) → whole_cases s ≡ false → explanation_of s want ≡ sheet_line 10
refused_explained = why.refused_explained

-- A case that is asked for has its index before it.
pub asked_told : (want : Wanted) (k : ℕ) (c : List ℕ) → wanted want c ≡ true → case_piece want k c ≡ indexed k c
asked_told = explanation.Told.asked

-- ---- beside the printed rulings (RULE R17.13)

-- A case that has a caution has its index, its trade and those lines; another has nothing.
module _ (k : ℕ) (s : List ℕ) where
  pub warned_some : any_caution (cautions_of s) ≡ true → warned_case k s ≡ warned_text k (number_at 4 s 4) (cautions_of s)
  warned_some = warnings.Warned.warned_some k s

  pub warned_none : any_caution (cautions_of s) ≡ false → length (warned_case k s) ≡ 0
  warned_none h = ap length (warnings.Warned.warned_none k s h)

-- ---- of calls

-- No caller tests anything first: whatever they are given, these ask nothing beyond their types, by which the buffers have 20,480 and 8,192 bytes.
pub nothing_asked : (κ : Lfts 1) (κs : Lfts 2) (s : Bor (List ℕ)) (b : MutBor (List ℕ)) (k : ℕ) (want : Wanted)
    → explanation.explain_case.Reads.Asked κs (s, (b, tt))
    × explanation.explain_piece.Reads.Asked κs (s, (k, (want, (b, tt))))
    × explanation.count_pieces.Reads.Asked κ (s, tt)
    × warnings.warn_piece.Reads.Asked κs (s, (k, (b, tt)))
    × counter.desk_explain_case.Reads.Asked κs (s, (b, tt))
nothing_asked κ κs s b k want = (tt, tt, tt, tt, tt)

-- So every call of `explain_case` and `desk_explain_case`, of any bytes: the first bytes of the buffer, as many as it answers, are the explanation, and every byte after them is kept.
module _ (κs : Lfts 2) (s s' : Bor (List ℕ)) (out out' : MutBor (List ℕ)) (r : ℕ) where
  pub explain_case_says : explanation.explain_case.Reads.Post κs (s, (out, tt)) r (s', (out', tt))
      → (take r out'.now ≡ explained_of s.now) × (r ≤ length out'.now) × (out'.now ≡ laid (explained_of s.now) out.now)
  explain_case_says p = (why.laid_taken r (explained_of s.now) out.now out'.now p.0, p.1.0, p.0.1)

  pub desk_explain_case_says : counter.desk_explain_case.Reads.Post κs (s, (out, tt)) r (s', (out', tt))
      → (take r out'.now ≡ explained_of s.now) × (out'.now ≡ laid (explained_of s.now) out.now)
  desk_explain_case_says p = (why.laid_taken r (explained_of s.now) out.now out'.now p, p.1)

-- And every run of calls of `explain_piece` on one sheet, for as many pieces as `count_pieces` answers, whatever the buffers hold before: what they wrote, as many
-- bytes as each answered, is the explanation of the sheet.
pub pieces_explain : (sheet : List ℕ) (want : Wanted) (n : ℕ) (κ : Lfts 1) (c c' : Bor (List ℕ))
    → (c.now ≡ sheet) × explanation.count_pieces.Reads.Post κ (c, tt) n (c', tt)
    → (κs : ℕ → Lfts 2) (s s' : ℕ → Bor (List ℕ)) (out out' : ℕ → MutBor (List ℕ)) (k' r : ℕ → ℕ) (want' : ℕ → Wanted)
    → ((k : ℕ) → k < n
    → ((s k).now ≡ sheet) × explanation.explain_piece.Reads.Post (κs k) (s k, (k, (want, (out k, tt)))) (r k) (s' k, (k' k, (want' k, (out' k, tt)))))
    → row (λ k. take (r k) (out' k).now) n ≡ explanation_of sheet want
unfolding explanation_of
pieces_explain sheet want n κ c c' counted κs s s' out out' k' r want' calls =
    let said : (k : ℕ) → k < n → (r k ≡ length (explained_piece sheet want k)) × ((out' k).now ≡ laid (explained_piece sheet want k) (out k).now)
    = λ k l. rw (calls k l).0 at (calls k l).1.0 in
    row_same (λ k. take (r k) (out' k).now) (explained_piece sheet want) n
    (λ k l. why.laid_taken (r k) (explained_piece sheet want k) (out k).now (out' k).now (said k l))
    ∙ ap (row (explained_piece sheet want)) (rw counted.0 at counted.1.0)

-- And every run of calls of `warn_piece` on one sheet, for the 600 cases that it has at most: what they wrote is what is told beside its printed rulings.
pub pieces_warn : (sheet : List ℕ) (κs : ℕ → Lfts 2) (s s' : ℕ → Bor (List ℕ)) (out out' : ℕ → MutBor (List ℕ)) (k' r : ℕ → ℕ)
    → ((k : ℕ) → k < 600 → ((s k).now ≡ sheet) × warnings.warn_piece.Reads.Post (κs k) (s k, (k, (out k, tt))) (r k) (s' k, (k' k, (out' k, tt))))
    → row (λ k. take (r k) (out' k).now) 600 ≡ warnings_of sheet
unfolding warnings_of
pieces_warn sheet κs s s' out out' k' r calls =
    let said : (k : ℕ) → k < 600 → (r k ≡ length (warned_piece sheet k)) × ((out' k).now ≡ laid (warned_piece sheet k) (out k).now)
    = λ k l. rw (calls k l).0 at (calls k l).1.0 in
    row_same (λ k. take (r k) (out' k).now) (warned_piece sheet) 600
    (λ k l. why.laid_taken (r k) (warned_piece sheet k) (out k).now (out' k).now (said k l))
