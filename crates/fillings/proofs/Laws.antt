-- What `fill_sheet_of` is, by the tests that lead there; the filled sheet is as long as the sheet, is cut into as many cases, and its case k is case k
-- filled.
use Prim.Native.Nat.{ℕ, zero, suc, ◌+◌, ◌≤◌, ◌<◌}
use mathlib.Core.Path.{◌≡◌, refl, sym, ap, ◌∙◌}
use mathlib.Core.Bool.{true, false}
use mathlib.Core.List.{List, [], ◌∷◌}
use native.Mathlib.Omega.{arith}
use lib.ListN.{length, get_or, set, length-append}
use lib.Seq.{get_or-set_other}
use lib.Dec.{eqb, lit≤}
use borrow.Author.Tests.{eq-eqb, ne_eqb, eqb-true}
use Rattle.wire.specs.Laid.{row}
use Rattle.wire.specs.Numbers.{bytes, stored_from, stored}
use Rattle.wire.proofs.Tests.{either, none_fails}
use Rattle.cut.specs.Cut.{IsCase}
use Rattle.cut.proofs.Laws.{case_is, row_whole, row_many, row_case}
use Rattle.cut.proofs.Walk.{start_first, start_next, start_end}
use Rattle.cut.proofs.Alike.{kept_case}
use Rattle.sheet.specs.Sheet.{whole, case_at, start_of, cases_in, whole_cases}
use Rattle.sheet.proofs.Turns.{whole_cut}
use Rattle.quotes.specs.Quotes.{quotes_refusal_of}
use Rattle.facts.specs.Numbers.{price_number}
use Rattle.filling.specs.Words.{Quote}
use Rattle.filling.specs.Filling.{filled, found_for, fill_refusal_of, filling_of}
use Rattle.filling.proofs.Answers.{as_long}
use Rattle.fillings.specs.Fillings.{fill_sheet_refusal_of, filled_case, fill_sheet_of}

module _ (q s : List ℕ) where
  -- ---- the tests
  pub sheet_fails : whole_cases s ≡ false → 10 ≡ fill_sheet_refusal_of q s
  unfolding fill_sheet_refusal_of
  sheet_fails h = simp h

  -- at second 0 the test 23 passes
  pub quotes_decide : (n : ℕ) → whole_cases s ≡ true → n ≡ quotes_refusal_of q 0 → n ≡ fill_sheet_refusal_of q s
  unfolding fill_sheet_refusal_of quotes_refusal_of
  quotes_decide n h e = simp h e

  pub whole_first : fill_sheet_refusal_of q s ≡ 0 → whole_cases s ≡ true
  unfolding fill_sheet_refusal_of
  whole_first e = (none_fails (whole_cases s) 10 _ tt e).0

  -- ---- what a call answers, and what it leaves
  abbrev pub Ends : ℕ → List ℕ → Type 0
  Ends r after = (r ≡ (fill_sheet_of q s).0) × (after ≡ (fill_sheet_of q s).1)

  ends : (p : ℕ × List ℕ) → fill_sheet_of q s ≡ p → Ends p.0 p.1
  ends p e = (ap (λ (x : ℕ × List ℕ). x.0) (sym e), ap (λ (x : ℕ × List ℕ). x.1) (sym e))

  pub refuses : (n : ℕ) → n ≡ fill_sheet_refusal_of q s → (n ≡ 0 → ⊥) → Ends n s
  unfolding fill_sheet_of
  refuses n e h = ends (n, s) (simp (← e, ne_eqb n 0 h))

  pub filled_whole : fill_sheet_refusal_of q s ≡ 0 → fill_sheet_of q s ≡ (0, row (filled_case q s) (cases_in s))
  unfolding fill_sheet_of
  filled_whole e = simp (eq-eqb (fill_sheet_refusal_of q s) 0 e)

  pub fills : fill_sheet_refusal_of q s ≡ 0 → Ends 0 (row (filled_case q s) (cases_in s))
  fills e = ends (0, row (filled_case q s) (cases_in s)) (filled_whole e)

  -- ---- lengths: a filled case is as long as it was, so each begins where it began
  pub row_long : (n : ℕ) → n ≤ cases_in s → length (row (filled_case q s) n) ≡ start_of s n
  unfolding row
  row_long zero within = sym (start_first s)
  row_long (suc n) within =
      omega (arith, length-append (row (filled_case q s) n) (filled_case q s n), row_long n (omega arith), as_long q (case_at s n), start_next s n (omega arith))

  pub all_long : whole s ≡ true → length (row (filled_case q s) (cases_in s)) ≡ length s
  all_long h = row_long (cases_in s) (omega arith) ∙ start_end s h

  pub sheet_as_long : length (fill_sheet_of q s).1 ≡ length s
  unfolding fill_sheet_of
  sheet_as_long =
      either (λ (p : ℕ × List ℕ). length p.1 ≡ length s) (eqb (fill_sheet_refusal_of q s) 0) (0, row (filled_case q s) (cases_in s)) (fill_sheet_refusal_of q s, s)
      (λ t. all_long (whole_cut s (whole_first (eqb-true (fill_sheet_refusal_of q s) 0 t))))
      (λ _. refl)

-- ---- a filled case is a case still: its head stays
front_kept : (bs o : List ℕ) (i k j : ℕ) → j < i → get_or (stored_from o i k bs) j 0 ≡ get_or o j 0
front_kept [] o i k j h = refl
front_kept (b ∷ bs) o i k j h = front_kept bs (set o (i + k) b) i (suc k) j h ∙ get_or-set_other o (i + k) j b 0 (λ e. omega arith)

module _ (j : ℕ) (h : j < 4) where
  kept : (o bs : List ℕ) (i : ℕ) → 20 ≤ i → get_or (stored o i bs) j 0 ≡ get_or o j 0
  kept o bs i l = front_kept bs o i 0 j (omega arith)

  filled_head : (s : List ℕ) (bid offer : Quote) → get_or (filled s bid offer) j 0 ≡ get_or s j 0
  unfolding filled
  filled_head s bid offer =
      let s1 = stored s 20 (bytes 4 (price_number bid.price)) in
      let s2 = stored s1 24 (bytes 4 (price_number offer.price)) in
      let s3 = stored s2 28 (bytes 4 bid.size.0) in
      kept s3 (bytes 4 offer.size.0) 32 (lit≤ tt)
      ∙ kept s2 (bytes 4 bid.size.0) 28 (lit≤ tt)
      ∙ kept s1 (bytes 4 (price_number offer.price)) 24 (lit≤ tt)
      ∙ kept s (bytes 4 (price_number bid.price)) 20 (lit≤ tt)

  head_kept : (q s : List ℕ) → get_or (filling_of q s).1 j 0 ≡ get_or s j 0
  unfolding filling_of
  head_kept q s =
      either (λ (p : ℕ × List ℕ). get_or p.1 j 0 ≡ get_or s j 0) (eqb (fill_refusal_of q s) 0) _ _
      (λ _. filled_head s (found_for q s).bid (found_for q s).offer)
      (λ _. refl)

pub filled_is : (q s : List ℕ) (k : ℕ) → k < cases_in s → IsCase (filled_case q s k)
filled_is q s k within = kept_case (case_at s k) (filled_case q s k) (case_is s k within) (as_long q (case_at s k)) (λ j h. head_kept j h q (case_at s k))

-- a sheet that is not refused is filled to a whole one of as many cases, each case filled, in its place
module _ (q s : List ℕ) (good : fill_sheet_refusal_of q s ≡ 0) where
  after : (fill_sheet_of q s).1 ≡ row (filled_case q s) (cases_in s)
  after = ap (λ (p : ℕ × List ℕ). p.1) (filled_whole q s good)

  pub whole_filled : whole (fill_sheet_of q s).1 ≡ true
  whole_filled = ap whole after ∙ row_whole (filled_case q s) (cases_in s) (filled_is q s)

  pub many_filled : cases_in (fill_sheet_of q s).1 ≡ cases_in s
  many_filled = ap (λ (t : List ℕ). cases_in t) after ∙ row_many (filled_case q s) (cases_in s) (filled_is q s)

  pub case_filled : (k : ℕ) → k < cases_in s → case_at (fill_sheet_of q s).1 k ≡ filled_case q s k
  case_filled k within = ap (λ (t : List ℕ). case_at t k) after ∙ row_case (filled_case q s) (cases_in s) (filled_is q s) k within
