-- Why demand 1, the law of reordering and what is said of explanations hold: what a row of tests gives back, and what the definitions make of it. Nothing is promised here.
use Prim.Native.Nat.{ℕ, zero, suc, ◌+◌, ◌-◌, ◌*◌, ◌≤◌, ◌<◌, zero-le}
use Rattle.std.specs.Prelude.{◌≡◌, Bool, take, drop, Some, None}
use Rattle.std.proofs.Math.Path.{refl, sym, ap, subst}
use Rattle.std.proofs.Common.{◌∙◌, length-append, take_at}
use Rattle.std.proofs.Math.Bool.{true, false}
use Rattle.std.proofs.Math.Logic.{inl, inr}
use mathlib.Core.List.{List, [], ◌∷◌, ◌++◌, append_assoc, append-nil}
use native.Mathlib.Omega.{arith}
use Rattle.std.proofs.Math.ListN.{length}
use Rattle.std.proofs.Math.Seq.{take-append_seam}
use Rattle.std.proofs.Math.Dec.{leb, eqb}
use borrow.Author.Tests.{leb-true, leb-false, le-leb, lt-leb, lt-ltb, le-ltb, eq-eqb, eqb-true, eqb-false}
use Rattle.wire.specs.Laid.{laid, row}
use Rattle.wire.specs.Tests.{pick, first_failed}
use Rattle.wire.proofs.Tests.{either, none_fails}
use Rattle.wire.proofs.Rows.{row_most, row_same}
use Rattle.record.specs.Record.{facts_of}
use Rattle.forms.specs.Forms.{form_length}
use Rattle.ruling.specs.Origins.{Exactly}
use Rattle.refusals.specs.Tests.{length_ok}
use Rattle.cases.specs.Words.{Facts}
use Rattle.cases.specs.declared.Reading.{Reading}
use Rattle.cases.specs.Cases.{refusal_of, accepted, reading_of, write_refusal_of}
use Rattle.cases.proofs.Laws.{read_number, accepted_at_lem, formed, accepted_form}
use Rattle.answer.specs.Answer.{case_refusal_of, answer_of, case_of}
use Rattle.answer.proofs.Cases.{answer_length}
use Rattle.sheet.specs.declared.SheetAnswer.{SheetAnswer}
use Rattle.cut.specs.Cut.{cut_by, cut}
use Rattle.sheet.specs.Sheet.{whole, case_at, cases_in, ruled_in, whole_cases, sheet_refusal_of, refused_whole, ruled_whole, sheet_of}
use Rattle.sheet.proofs.Turns.{whole_cut, whole_few}
use Rattle.text.specs.Text.{letters, spelt, decimal_of}
use Rattle.lines.specs.Lines.{header, end_line, sheet_line}
use Rattle.lines.proofs.Lengths.{header_most, end_most, sheet_most}
use Rattle.report.specs.Report.{line_of, ruled_text, text_of}
use Rattle.report.proofs.Lines.{line_most}
use Rattle.report.specs.Pieces.{piece_of, pieces_in}
use Rattle.report.proofs.Pieces.{piece_whole, enough_pieces}
use Rattle.facts.specs.declared.Side.{Side}
use Rattle.facts.specs.declared.Side.TheVariants.{Buy, Sell}
use Rattle.bands.specs.declared.Band.{Band}
use Rattle.bands.specs.Table.{among, rows, last_row, band_of}
use Rattle.way.specs.declared.Way.{Way}
use Rattle.way.specs.declared.Way.TheVariants.{Obvious, Opening, Catastrophic}
use Rattle.act.specs.Minimum.{minimum_of}
use Rattle.steps.specs.Found.{gap_of, error_of}
use Rattle.steps.proofs.True as shown
use Rattle.words.specs.Rows.{rows_text}
use Rattle.careful.specs.Words.{Caution}
use Rattle.careful.specs.Careful.{caution_at, no_cautions, cautions_in, cautions_of}
use Rattle.careful.proofs.Found.{whole as careful-whole}
use Rattle.careful.proofs.Laws.{told_truly, only_cases, every_case}
use Rattle.careful_lines.specs.Lines.{warning_row, caution_rows, careful_rows}
use Rattle.refusals.specs.Tests.{head_fault_of}
use Rattle.told.specs.Stands.{EachStands}
use Rattle.told.proofs.Rows.{rows_and}
use Rattle.told.proofs.Told.{told_stand}
use Rattle.words.specs.Names.{careful_bid_words, careful_offer_words, careful_official_words, careful_buyer_words, careful_seller_words}
use Rattle.explanation.specs.Words.{Wanted}
use Rattle.explanation.specs.Explained.{told_rows, explained_rows, explained_of}
use Rattle.explanation.specs.Pieces.{desk_alone, case_piece, explained_piece, explanation_of}
use Rattle.explanation.proofs.Told.{told_ruled, whole_piece, refused_piece_lem, pieces_whole}
use Rattle.facts.specs.declared.Mills.{Mills}
use Rattle.halves.specs.declared.Half.{Half}
use Rattle.quotes.specs.declared.Posted.{Posted}
use Rattle.best.specs.Lasts.{last_of}
use Rattle.best.specs.Best.{said_by, best_of}
use Rattle.best.specs.Found.{best_in}
use Rattle.quotes.specs.Quotes.{whole_quotes, list_tests}
use Rattle.filling.specs.Filling.{quoted, found_for, fill_refusal_of, filling_of}
use Rattle.lookups.specs.Lookups.{NoBetter}
use Rattle.lookups.proofs.Better.{no_better_said, is_one}
use Rattle.lookups.proofs.Again.{filled_twice, case_good, fill_facts}
use Rattle.fillings.specs.Fillings.{fill_sheet_refusal_of, filled_case, fill_sheet_of}
use Rattle.fillings.proofs.Laws.{refuses, whole_first, filled_whole, sheet_as_long, whole_filled, many_filled, case_filled}
use Rattle.demands.specs.Ends.{fill_sheet_numbers, SheetFilled, OneOf, Told, Answered, SheetAnswered, SheetEnded}

-- ---- a row of tests gives 0 or one of its numbers
abbrev numbers_of : List (ℕ × Bool) → List ℕ
numbers_of [] = []
numbers_of ((n, ok) ∷ tests) = n ∷ numbers_of tests

pub told : (tests : List (ℕ × Bool)) → Told (numbers_of tests) (first_failed tests)
told [] = inl refl
told ((n, true) ∷ tests) = later (told tests) where
  later : Told (numbers_of tests) (first_failed tests) → Told (n ∷ numbers_of tests) (first_failed tests)
  later (inl e) = inl e
  later (inr o) = inr (inr o)
told ((n, false) ∷ tests) = inr (inl refl)

pub other : (numbers : List ℕ) (n : ℕ) → Told numbers n → eqb n 0 ≡ false → OneOf numbers n
other numbers n (inl e) h = absurd (eqb-false n 0 h e)
other numbers n (inr o) h = o

-- ---- a case: bytes where the number is 0, none where it is another
pub answered : (size room : ℕ) (numbers : List ℕ) (n : ℕ) (w : List ℕ) → Told numbers n → (n ≡ 0 → size ≤ room) → length w ≡ size
    → Answered size numbers room (pick {A = ℕ × List ℕ} (eqb n 0) (0, w) (n, []))
answered size room numbers n w t fits long =
    either (Answered size numbers room) (eqb n 0) (0, w) (n, []) (λ h. inl (refl, fits (eqb-true n 0 h), long)) (λ h. inr (other numbers n t h, refl))

-- a case that is ruled had room, and so had facts that are written
pub case_fits : (s : List ℕ) (room : ℕ) → case_refusal_of s room ≡ 0 → 96 ≤ room
unfolding case_refusal_of
case_fits s room e = leb-true 96 room (none_fails (leb 96 room) 11 _ tt (none_fails (length_ok s) 1 _ tt e).1).0

pub write_fits : (f : Facts) (room : ℕ) → write_refusal_of f room ≡ 0 → form_length f.form ≤ room
unfolding write_refusal_of
write_fits f room e = leb-true (form_length f.form) room (none_fails (leb (form_length f.form) room) 11 _ tt e).0

-- of what is laid over a buffer, the first so many bytes are what was written
pub laid_taken : (n : ℕ) (w l m : List ℕ) → (n ≡ length w) × (m ≡ laid w l) → take n m ≡ w
unfolding laid
laid_taken n w l m e = rw (e.1, e.0, take-append_seam)

-- the bytes that a call leaves where it rules
pub ruled_bytes_lem : (s l m : List ℕ) (n : ℕ) → (n ≡ (case_of s (length l)).0) × (m ≡ laid (case_of s (length l)).1 l) → n ≡ 0 → take 96 m ≡ answer_of (facts_of s)
unfolding laid case_of
ruled_bytes_lem s l m n p e = by_test (eqb k 0) refl p where
  k : ℕ
  k = case_refusal_of s (length l)

  a : List ℕ
  a = answer_of (facts_of s)

  by_test : (b : Bool) → eqb k 0 ≡ b → (n ≡ (pick {A = ℕ × List ℕ} b (0, a) (k, [])).0) × (m ≡ laid (pick {A = ℕ × List ℕ} b (0, a) (k, [])).1 l) → take 96 m ≡ a
  by_test true h p = ap (take 96) p.1 ∙ take_at a (drop (length a) l) 96 (answer_length (facts_of s))
  by_test false h p = absurd (eqb-false k 0 h (sym p.0 ∙ e))

-- a case that is ruled was accepted
pub ruled_accepted : (s : List ℕ) (room : ℕ) → (case_of s room).0 ≡ 0 → (reading_of s).refusal ≡ 0
unfolding case_of case_refusal_of refusal_of
ruled_accepted s room e = by_test (eqb (case_refusal_of s room) 0) refl e where
  passed : case_refusal_of s room ≡ 0 → (reading_of s).refusal ≡ 0
  passed z =
      let one = none_fails (length_ok s) 1 _ tt z in
      let eleven = none_fails (leb 96 room) 11 _ tt one.1 in
      read_number s ∙ simp one.0 eleven.1

  by_test : (b : Bool) → eqb (case_refusal_of s room) 0 ≡ b → (pick {A = ℕ × List ℕ} b (0, answer_of (facts_of s)) (case_refusal_of s room, [])).0 ≡ 0 → (reading_of s).refusal ≡ 0
  by_test true h z = passed (eqb-true (case_refusal_of s room) 0 h)
  by_test false h z = passed z

-- ---- a sheet: the row where the number is 0, nothing where it is 10 or 11
module _ (s : List ℕ) (room : ℕ) where
  abbrev number : ℕ
  number = sheet_refusal_of s room

  sheet_fits : number ≡ 0 → cases_in s * 96 ≤ room
  unfolding sheet_refusal_of
  sheet_fits e = leb-true (cases_in s * 96) room (none_fails (leb (cases_in s * 96) room) 11 _ tt (none_fails (whole_cases s) 10 _ tt e).1).0

  refused_whole_lem : (n : ℕ) → OneOf (10 ∷ 11 ∷ []) n → SheetAnswered s room (refused_whole n)
  refused_whole_lem n (inl e) = inr (inl (ap refused_whole e))
  refused_whole_lem n (inr (inl e)) = inr (inr (ap refused_whole e))
  refused_whole_lem n (inr (inr none)) = elim none [ ]

  sheet_told : Told (10 ∷ 11 ∷ []) number
  unfolding sheet_refusal_of
  sheet_told = told ((10, whole_cases s) ∷ (11, leb (cases_in s * 96) room) ∷ [])

  pub sheet_answered : SheetAnswered s room (sheet_of s room)
  unfolding sheet_of
  sheet_answered =
      either (SheetAnswered s room) (eqb number 0) (ruled_whole s (cases_in s)) (refused_whole number)
      (λ h. inl (refl, sheet_fits (eqb-true number 0 h)))
      (λ h. refused_whole_lem number (other (10 ∷ 11 ∷ []) number sheet_told h))

  -- which of the two numbers, exactly
  told_number : (sheet_of s room).0.refusal ≡ number
  unfolding sheet_of
  told_number =
      either (λ (a : SheetAnswer × List ℕ). a.0.refusal ≡ number) (eqb number 0) (ruled_whole s (cases_in s)) (refused_whole number)
      (λ h. sym (eqb-true number 0 h)) (λ h. refl)

  number_whole : (b c : Bool) → whole_cases s ≡ b → leb (cases_in s * 96) room ≡ c → number ≡ pick b (pick c 0 11) 10
  unfolding sheet_refusal_of
  number_whole b c h k = rw (h, k)

  pub ten_exactly : Exactly ((sheet_of s room).0.refusal ≡ 10) (whole_cases s ≡ false)
  ten_exactly = (λ e. by_test (whole_cases s) (leb (cases_in s * 96) room) refl refl (sym told_number ∙ e), λ h. told_number ∙ number_whole false _ h refl) where
    by_test : (b c : Bool) → whole_cases s ≡ b → leb (cases_in s * 96) room ≡ c → number ≡ 10 → whole_cases s ≡ false
    by_test true true h k e = absurd (eqb-false 0 10 refl (sym (number_whole true true h k) ∙ e))
    by_test true false h k e = absurd (eqb-false 11 10 refl (sym (number_whole true false h k) ∙ e))
    by_test false c h k e = h

  pub eleven_exactly : Exactly ((sheet_of s room).0.refusal ≡ 11) ((whole_cases s ≡ true) × (room < cases_in s * 96))
  eleven_exactly = (
    λ e. by_test (whole_cases s) (leb (cases_in s * 96) room) refl refl (sym told_number ∙ e),
    λ h. told_number ∙ number_whole true false h.0 (lt-leb (cases_in s * 96) room h.1),
  ) where
    by_test : (b c : Bool) → whole_cases s ≡ b → leb (cases_in s * 96) room ≡ c → number ≡ 11 → (whole_cases s ≡ true) × (room < cases_in s * 96)
    by_test true true h k e = absurd (eqb-false 0 11 refl (sym (number_whole true true h k) ∙ e))
    by_test true false h k e = (h, leb-false (cases_in s * 96) room k)
    by_test false c h k e = absurd (eqb-false 10 11 refl (sym (number_whole false c h k) ∙ e))

pub empty_sheet : (room : ℕ) → sheet_of [] room ≡ (record { refusal = 0; written = 0; ruled = 0; refused = 0 }, [])
unfolding sheet_of sheet_refusal_of whole_cases whole cut cut_by row ruled_in
empty_sheet room = simp (le-leb 0 room zero-le)

-- and written into the buffer
module _ {A : Type 0} (view : SheetAnswer → A) (s : List ℕ) (r : A) (l m : List ℕ) where
  abbrev Left : SheetAnswer × List ℕ → Type 0
  Left a = (r ≡ view a.0) × (m ≡ laid a.1 l)

  pub sheet_ended : (a : SheetAnswer × List ℕ) → SheetAnswered s (length l) a → Left a → SheetEnded view s r l m
  unfolding laid
  sheet_ended a (inl h) p = let q = subst Left h.0 p in inl (q.0, h.1, q.1)
  sheet_ended a (inr (inl h)) p = let q = subst Left h p in inr (inl q.0, q.1)
  sheet_ended a (inr (inr h)) p = let q = subst Left h p in inr (inr q.0, q.1)

-- a sheet refused whole writes nothing
pub none_written : (s : List ℕ) (room : ℕ) → ((sheet_of s room).0.refusal ≡ 0 → ⊥) → (sheet_of s room).1 ≡ []
unfolding sheet_of
none_written s room =
    either (λ (a : SheetAnswer × List ℕ). (a.0.refusal ≡ 0 → ⊥) → a.1 ≡ []) (eqb (sheet_refusal_of s room) 0) (ruled_whole s (cases_in s)) (refused_whole (sheet_refusal_of s room))
    (λ h d. absurd (d refl)) (λ h d. refl)

-- ---- the printer's text: 600 lines of 96 bytes at most, the header and END
module _ (s : List ℕ) where
  pub text_answered : (whole_cases s ≡ true → text_of s ≡ ruled_text s (cases_in s)) × (whole_cases s ≡ false → text_of s ≡ sheet_line 10)
  unfolding text_of
  text_answered = ((λ h. simp h), (λ h. simp h))

  whole_fits : (n : ℕ) → n ≤ 600 → length (ruled_text s n) ≤ 65536
  whole_fits n h =
      rw (length-append, length-append)
      (omega (arith, header_most, row_most (line_of s) 96 (λ k. line_most k _) n, end_most (ruled_in s n) (n - ruled_in s n)))

  pub text_fits : length (text_of s) ≤ 65536
  unfolding text_of
  text_fits =
      either (λ (t : List ℕ). length t ≤ 65536) (whole_cases s) _ _ (λ h. whole_fits (cases_in s) (whole_few s h)) (λ h. omega (arith, sheet_most 10))

  pub header_first : whole_cases s ≡ true → (rest : List ℕ) × (text_of s ≡ header ++ rest)
  unfolding text_of
  header_first h = (row (line_of s) (cases_in s) ++ end_line (ruled_in s (cases_in s)) (cases_in s - ruled_in s (cases_in s)), simp h (append_assoc header _ _))

pub empty_report : text_of [] ≡ letters "TRADE OUTCOME REASON TP NEW ADJ NUL OLD FROM" ++ (10 ∷ []) ++ letters "END 0 0" ++ (10 ∷ [])
unfolding text_of whole_cases whole cut cut_by header end_line row ruled_in decimal_of spelt
empty_report = refl

-- ---- a case filled
module _ (q s : List ℕ) where
  pub filled_accepted : (filling_of q s).0 ≡ 0
      → ((reading_of s).refusal ≡ 0) × (reading_of (filling_of q s).1 ≡ accepted (quoted (reading_of s).facts (found_for q s).bid (found_for q s).offer))
  filled_accepted done =
      let good = case_good q s done in
      let facts = fill_facts q s done in (
        read_number s ∙ good,
        accepted_at_lem (filling_of q s).1 facts.0
            ∙ ap accepted (facts.1 ∙ ap (λ (r : Reading). quoted r.facts (found_for q s).bid (found_for q s).offer) (sym (accepted_at_lem s good))),
      )

-- ---- a sheet filled
module _ (q s : List ℕ) where
  sheet_refusal_told : Told fill_sheet_numbers (fill_sheet_refusal_of q s)
  unfolding fill_sheet_refusal_of
  sheet_refusal_told = told ((10, whole_cases s) ∷ (20, whole_quotes q) ∷ list_tests q)

  pub sheet_number : (fill_sheet_of q s).0 ≡ fill_sheet_refusal_of q s
  unfolding fill_sheet_of
  sheet_number =
      either (λ (p : ℕ × List ℕ). p.0 ≡ fill_sheet_refusal_of q s) (eqb (fill_sheet_refusal_of q s) 0) (0, row (filled_case q s) (cases_in s)) (fill_sheet_refusal_of q s, s)
      (λ e. sym (eqb-true (fill_sheet_refusal_of q s) 0 e)) (λ e. refl)

  pub sheet_filled : SheetFilled q s (fill_sheet_of q s).0 (fill_sheet_of q s).1
  sheet_filled = by_test (eqb (fill_sheet_refusal_of q s) 0) refl where
    by_test : (b : Bool) → eqb (fill_sheet_refusal_of q s) 0 ≡ b → SheetFilled q s (fill_sheet_of q s).0 (fill_sheet_of q s).1
    by_test true h =
        let none = eqb-true (fill_sheet_refusal_of q s) 0 h in
        inl (sheet_number ∙ none, sheet_as_long q s, whole_filled q s none, many_filled q s none, case_filled q s none)
    by_test false h =
        let some = eqb-false (fill_sheet_refusal_of q s) 0 h in
        inr (rw sheet_number (other fill_sheet_numbers (fill_sheet_refusal_of q s) sheet_refusal_told h), sym (refuses q s (fill_sheet_refusal_of q s) refl some).1)

-- ---- filled twice, a sheet too
whole_twice : (q s : List ℕ) → fill_sheet_refusal_of q s ≡ 0 → fill_sheet_of q (fill_sheet_of q s).1 ≡ fill_sheet_of q s
unfolding fill_sheet_refusal_of whole_cases
whole_twice q s good =
    let t = (fill_sheet_of q s).1 in
    let long : length t ≡ length s = sheet_as_long q s in
    let is : whole t ≡ whole s = whole_filled q s good ∙ sym (whole_cut s (whole_first q s good)) in
    let number : fill_sheet_refusal_of q t ≡ 0 = rw (is, long) good in
    let count = many_filled q s good in
    let each : (k : ℕ) → k < cases_in s → filled_case q t k ≡ filled_case q s k
    = λ k within. ap (λ (c : List ℕ). (filling_of q c).1) (case_filled q s good k within) ∙ ap (λ (p : ℕ × List ℕ). p.1) (filled_twice q (case_at s k)) in
    filled_whole q t number ∙ ap (λ (w : List ℕ). (0, w)) (ap (row (filled_case q t)) count ∙ row_same (filled_case q t) (filled_case q s) (cases_in s) each) ∙ sym (filled_whole q s good)

module _ (q s : List ℕ) where
  pub sheet_twice : fill_sheet_of q (fill_sheet_of q s).1 ≡ fill_sheet_of q s
  sheet_twice = by_test (eqb (fill_sheet_refusal_of q s) 0) refl where
    by_test : (b : Bool) → eqb (fill_sheet_refusal_of q s) 0 ≡ b → fill_sheet_of q (fill_sheet_of q s).1 ≡ fill_sheet_of q s
    by_test true h = whole_twice q s (eqb-true (fill_sheet_refusal_of q s) 0 h)
    by_test false h = ap (fill_sheet_of q) (sym (refuses q s (fill_sheet_refusal_of q s) refl (eqb-false (fill_sheet_refusal_of q s) 0 h)).1)

-- ---- the best of the sixteen, either half
pub best_of_sixteen : (h : Half) (qs : List Posted)
    → ((e : ℕ) → 1 ≤ e → e ≤ 16 → NoBetter h (said_by h (last_of e qs)).price (best_in h qs).price)
    × ((m : Mills) → (best_in h qs).price ≡ Some m → (e : ℕ) × (1 ≤ e) × (e ≤ 16) × ((said_by h (last_of e qs)).price ≡ Some m))
unfolding best_of
best_of_sixteen h qs = (no_better_said h qs, is_one h qs)

-- ---- quotes that change nothing fill nothing else
pub same_filling : (q p s : List ℕ) → found_for q s ≡ found_for p s → filling_of q s ≡ filling_of p s
unfolding filling_of fill_refusal_of
same_filling q p s h = rw h

-- ---- the explanation of a case, and of a sheet from its pieces
pub careful_last : (s : List ℕ) → explained_of s ≡ rows_text (told_rows s ++ careful_rows (cautions_of s))
unfolding explained_of explained_rows
careful_last s = refl

row_first : (f : ℕ → List ℕ) (n : ℕ) → row f (suc n) ≡ f 0 ++ row (λ k. f (suc k)) n
unfolding row
row_first f zero = sym (append-nil (f 0))
row_first f (suc n) = rw (row_first f n, append_assoc)

module _ (s : List ℕ) (want : Wanted) where
  pub refused_explained : whole_cases s ≡ false → explanation_of s want ≡ sheet_line 10
  unfolding explanation_of
  refused_explained h =
      row_same (explained_piece s want) (piece_of s) (pieces_in s) (λ k _. refused_piece_lem s want k h)
      ∙ enough_pieces s (pieces_in s) (omega arith)
      ∙ (text_answered s).1 h

  pub sheet_explained : whole_cases s ≡ true
      → explanation_of s want ≡ desk_alone ++ (row (λ k. case_piece want k (case_at s k)) (cases_in s) ++ end_line (ruled_in s (cases_in s)) (cases_in s - ruled_in s (cases_in s)))
  unfolding explanation_of row
  sheet_explained h =
      let n = cases_in s in
      let count : pieces_in s ≡ suc (suc n) = omega (arith, pieces_whole s h) in
      let head : explained_piece s want 0 ≡ desk_alone = whole_piece s want 0 h in
      let cases : row (λ k. explained_piece s want (suc k)) n ≡ row (λ k. case_piece want k (case_at s k)) n
      = row_same (λ k. explained_piece s want (suc k)) (λ k. case_piece want k (case_at s k)) n (λ k l. whole_piece s want (suc k) h ∙ simp (lt-ltb k n l)) in
      let end : explained_piece s want (suc n) ≡ end_line (ruled_in s n) (n - ruled_in s n)
      = whole_piece s want (suc n) h ∙ (simp (le-ltb n n (omega arith))) ∙ piece_whole s h (suc n) ∙ simp (le-ltb n n (omega arith), eq-eqb n n refl) in
      ap (row (explained_piece s want)) count ∙ row_first (explained_piece s want) (suc n) ∙ rw (head, cases, end) refl

-- ---- what is told with a place stands there: of the careful lines, and so of the whole explanation of an accepted case
caution_stands : (s : List ℕ) (phrase i : ℕ) → i + 4 ≤ length s → 8 + 4 ≤ length s → (c : Caution) → caution_at s i ≡ c → EachStands s (caution_rows phrase c)
unfolding warning_row
caution_stands s phrase i fits far None e = tt
caution_stands s phrase i fits far (Some w) e =
    let t = told_truly s i w e in
    (((rw t.place fits, rw t.place (sym t.stands)), (tt, ((far, sym t.execution), (tt, (tt, (tt, (tt, (tt, (tt, (tt, tt)))))))))), tt)

module _ (s : List ℕ) where
  cautions_stand : 88 ≤ length s → EachStands s (careful_rows (cautions_in s))
  unfolding careful_rows cautions_in
  cautions_stand long =
      let far : 8 + 4 ≤ length s = omega arith in
      let bid = caution_rows careful_bid_words (caution_at s 20) in
      let offer = caution_rows careful_offer_words (caution_at s 24) in
      let official = caution_rows careful_official_words (caution_at s 40) in
      let buyer = caution_rows careful_buyer_words (caution_at s 52) in
      let seller = caution_rows careful_seller_words (caution_at s 60) in
      rows_and s (((bid ++ offer) ++ official) ++ buyer) seller
      (rows_and s ((bid ++ offer) ++ official) buyer
      (rows_and s (bid ++ offer) official
      (rows_and s bid offer
      (caution_stands s careful_bid_words 20 (omega arith) far (caution_at s 20) refl)
      (caution_stands s careful_offer_words 24 (omega arith) far (caution_at s 24) refl))
      (caution_stands s careful_official_words 40 (omega arith) far (caution_at s 40) refl))
      (caution_stands s careful_buyer_words 52 (omega arith) far (caution_at s 52) refl))
      (caution_stands s careful_seller_words 60 (omega arith) far (caution_at s 60) refl)

  pub careful_stand : EachStands s (careful_rows (cautions_of s))
  unfolding careful_rows no_cautions
  careful_stand = by_test (eqb (head_fault_of s) 0) refl where
    by_test : (b : Bool) → eqb (head_fault_of s) 0 ≡ b → EachStands s (careful_rows (cautions_of s))
    by_test true h = let e = eqb-true (head_fault_of s) 0 h in rw (every_case s e) (cautions_stand (careful-whole s e))
    by_test false h = rw (only_cases s (eqb-false (head_fault_of s) 0 h)) tt

  pub explained_stand : refusal_of s ≡ 0 → EachStands s (explained_rows s)
  unfolding explained_rows
  explained_stand h =
      rows_and s (told_rows s) (careful_rows (cautions_of s))
      (subst (EachStands s) (told_ruled s h) (told_stand s (formed s (accepted_form s (read_number s ∙ h))) _))
      careful_stand

-- ---- a sum that an explanation shows is not cut short: a minimum is 15 dollars at most
abbrev Low : Band → Type 0
Low b = (b.obvious.0 ≤ 15000) × (b.catastrophic.0 ≤ 15000)

abbrev AllLow : List Band → Type 0
AllLow [] = Unit {0}
AllLow (b ∷ bs) = Low b × AllLow bs

among_low : (last : Band) (bs : List Band) (tp : Mills) → Low last → AllLow bs → Low (among last bs tp)
among_low last [] tp h t = h
among_low last (b ∷ bs) tp h t = either Low (leb tp.0 b.top.0) b (among last bs tp) (λ _. t.0) (λ _. among_low last bs tp h t.1)

table_low : (tp : Mills) → Low (band_of tp)
unfolding band_of
table_low tp =
    let all : AllLow rows
    = ((omega arith, omega arith), ((omega arith, omega arith), ((omega arith, omega arith), ((omega arith, omega arith), ((omega arith, omega arith), ((omega arith, omega arith), tt)))))) in
    among_low last_row rows tp (omega arith, omega arith) all

minimum_most : (way : Way) (tp : Mills) → (minimum_of way (band_of tp)).0 ≤ 15000
minimum_most Obvious tp = (table_low tp).0
minimum_most Opening tp = (table_low tp).0
minimum_most Catastrophic tp = (table_low tp).1

pub sum_tested : (side : Side) (execution tp : Mills) (way : Way) → execution.0 ≤ 9999999 → tp.0 ≤ 9999999
    → (error_of side execution tp way).wrong ≡ leb (error_of side execution tp way).reach.0 (error_of side execution tp way).high.0
sum_tested Buy execution tp way h k = shown.sum_tested Buy execution tp way (omega (arith, minimum_most way tp))
sum_tested Sell execution tp way h k = shown.sum_tested Sell execution tp way (omega (arith, minimum_most way tp))

pub gap_tested : (differential bid offer : Mills) → differential.0 ≤ 9999999 → bid.0 ≤ 9999999
    → (gap_of differential bid offer).wide ≡ leb (gap_of differential bid offer).reach.0 (gap_of differential bid offer).offer.0
gap_tested differential bid offer h k = shown.gap_tested differential bid offer (omega arith)
