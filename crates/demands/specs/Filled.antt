-- A case filled with the best bid and offer at its own execution time (RULE R16.10 to R16.16, R16.24): demands 1 and 2 of filling, that a filled case is
-- accepted with its old facts and those quotes, and that filling twice is filling once. First of the definitions, then, as "so every call", of
-- what the promises of the functions allow.
use Rattle.std.specs.Prelude.{ℕ, ◌≤◌, ◌≡◌, List, ◌++◌, length}
use Rattle.std.proofs.Common.{sym, ap, ◌∙◌}
use contract.Lifetimes.{Lfts}
use Rattle.std.specs.Borrow.{Bor, MutBor}
use Rattle.record.specs.Record.{facts_of}
use Rattle.cases.specs.declared.Reading.{Reading}
use Rattle.cases.specs.Cases.{refusal_of, accepted, reading_of}
use Rattle.cases.proofs as cases
use Rattle.quotes.specs.Quotes.{posted_in}
use Rattle.earlier.specs.Earlier.{earlier}
use Rattle.best.specs.Examined.{examined_in}
use Rattle.filling.specs.declared.Tried.{Tried}
use Rattle.filling.specs.Filling.{quoted, found_for, filling_of, fill_read_of}
use Rattle.filling.proofs as filling
use Rattle.fillings.specs.Fillings.{fill_sheet_of}
use Rattle.fillings.proofs as fillings
use Rattle.fill_report.specs.Told.{fill_text}
use Rattle.fill_report.proofs as fill_report
use Rattle.desk.proofs as desk
use Rattle.lookups.specs.Lookups.{Whole}
use Rattle.lookups.proofs.Again as floor
use Rattle.demands.specs.Ends.{SheetFilled}
use Rattle.demands.specs.Demand2.{Said}
use Rattle.demands.specs.Quotes.{ChangesNothing, same_found}
use Rattle.demands.specs.Why as why

-- ---- demand 1: nothing is asked (and in proofs/Filled.antt: a case is filled, and every byte outside 20 to 35 is kept, or it gets one of 1 to 9 and 20 to 22 and is as
-- it was)
pub nothing_asked : (κs : Lfts 2) (κ : Lfts 3) (q c : Bor (List ℕ)) (s b : MutBor (List ℕ))
    → filling.fill_case.Reads.Asked κs (q, (s, tt))
    × filling.check_fill.Reads.Asked κs (q, (c, tt))
    × fillings.fill_sheet.Reads.Asked κs (q, (s, tt))
    × fillings.check_filling.Reads.Asked κs (q, (c, tt))
    × fill_report.print_filling.Reads.Asked κ (q, (c, (b, tt)))
    × desk.desk_fill_case.Reads.Asked κs (q, (s, tt))
nothing_asked κs κ q c s b = (tt, tt, tt, tt, tt, tt)

-- ---- a filled case was accepted and is accepted, and its facts are the old ones with what was found
pub filled_accepted : (q s : List ℕ) → (filling_of q s).0 ≡ 0
    → ((reading_of s).refusal ≡ 0) × (reading_of (filling_of q s).1 ≡ accepted (quoted (reading_of s).facts (found_for q s).bid (found_for q s).offer))
filled_accepted = why.filled_accepted

-- ---- how many quotes are read for a case (RULE R16.24): those of the lookup at its execution time; for one that is left as it was none
pub filled_read : (q s : List ℕ) → (filling_of q s).0 ≡ 0 → fill_read_of q s ≡ examined_in (earlier (facts_of s).trade.executed.0 (posted_in q))
filled_read = floor.fill_read

pub left_read : (q s : List ℕ) → ((filling_of q s).0 ≡ 0 → ⊥) → fill_read_of q s ≡ 0
left_read = floor.refused_read

-- ---- filling twice is filling once
pub filled_twice : (q s : List ℕ) → filling_of q (filling_of q s).1 ≡ filling_of q s
filled_twice = floor.filled_twice

pub sheet_filled_twice : (q s : List ℕ) → fill_sheet_of q (fill_sheet_of q s).1 ≡ fill_sheet_of q s
sheet_filled_twice = why.sheet_twice

-- ---- quotes that change nothing in a lookup at the case's execution time change nothing in its filling: records r between the records a and b
pub nothing_filled : (a r b s : List ℕ) → Whole a → Whole r → (found_for (a ++ (r ++ b)) s).refusal ≡ 0 → ChangesNothing a r b (facts_of s).trade.executed.0
    → filling_of (a ++ (r ++ b)) s ≡ filling_of (a ++ b) s
nothing_filled a r b s wa wr good nothing = why.same_filling (a ++ (r ++ b)) (a ++ b) s (same_found a r b (facts_of s).trade.executed.0 wa wr good nothing)

-- ---- a sheet filled: refused whole with 10 or 20 to 22, and as it was; or as long as it was, each case of it filled as by itself
pub sheet_filled : (q s : List ℕ) → SheetFilled q s (fill_sheet_of q s).0 (fill_sheet_of q s).1
sheet_filled = why.sheet_filled

-- So every call of `fill_sheet`; and `check_fill` and `check_filling` tell the numbers, the first with the quotes read, and write nothing.
module _ (κs : Lfts 2) (q q' : Bor (List ℕ)) (s s' : MutBor (List ℕ)) (n : ℕ) where
  pub fill_sheet_says : fillings.fill_sheet.Reads.Post κs (q, (s, tt)) n (q', (s', tt)) → (n ≡ (fill_sheet_of q.now s.now).0) × (s'.now ≡ (fill_sheet_of q.now s.now).1)
  fill_sheet_says p = p

  pub fill_sheet_ends : fillings.fill_sheet.Reads.Post κs (q, (s, tt)) n (q', (s', tt)) → SheetFilled q.now s.now n s'.now
  fill_sheet_ends p = rw (p.0, p.1) (sheet_filled q.now s.now)

module _ (κs : Lfts 2) (q q' s s' : Bor (List ℕ)) (n : ℕ) where
  pub check_fill_says : (r : Tried) → filling.check_fill.Reads.Post κs (q, (s, tt)) r (q', (s', tt)) → (r.refusal ≡ (filling_of q.now s.now).0) × (r.examined ≡ fill_read_of q.now s.now)
  check_fill_says r p = (ap (λ (x : Tried). x.refusal) p, ap (λ (x : Tried). x.examined) p)

  pub check_filling_says : fillings.check_filling.Reads.Post κs (q, (s, tt)) n (q', (s', tt)) → n ≡ (fill_sheet_of q.now s.now).0
  check_filling_says p = p ∙ sym (why.sheet_number q.now s.now)

-- Two calls of `fill_sheet`, the second on the sheet that the first left, with the same quotes: the same number, and the same sheet.
pub fill_sheet_twice : (κs κs' : Lfts 2) (q q' p p' : Bor (List ℕ)) (s s' u u' : MutBor (List ℕ)) (n m : ℕ) → p.now ≡ q.now → u.now ≡ s'.now
    → fillings.fill_sheet.Reads.Post κs (q, (s, tt)) n (q', (s', tt)) → fillings.fill_sheet.Reads.Post κs' (p, (u, tt)) m (p', (u', tt))
    → (m ≡ n) × (u'.now ≡ s'.now)
fill_sheet_twice κs κs' q q' p p' s s' u u' n m quotes left a b =
    let again : fill_sheet_of p.now u.now ≡ fill_sheet_of q.now s.now =
    ap (λ (l : List ℕ). fill_sheet_of l u.now) quotes ∙ ap (fill_sheet_of q.now) (left ∙ a.1) ∙ sheet_filled_twice q.now s.now in
    (b.0 ∙ ap (λ (x : ℕ × List ℕ). x.0) again ∙ sym a.0, b.1 ∙ ap (λ (x : ℕ × List ℕ). x.1) again ∙ sym a.1)

-- ---- what is said of it: no text is longer than the buffer of 131,072 bytes
pub text_fits : (q s : List ℕ) → length (fill_text q s) ≤ 131072
text_fits = fill_report.Lengths.text_most

-- So every call of `print_filling`: the text stands over the start of the buffer, every byte after it is kept, and its length is answered.
pub print_filling_says : (κs : Lfts 3) (q q' s s' : Bor (List ℕ)) (out out' : MutBor (List ℕ)) (r : ℕ)
    → fill_report.print_filling.Reads.Post κs (q, (s, (out, tt))) r (q', (s', (out', tt)))
    → Said (length (fill_text q.now s.now)) (fill_text q.now s.now) r out.now out'.now × (r ≤ 131072)
print_filling_says κs q q' s s' out out' r p = (p.0, rw p.0.0 (text_fits q.now s.now))

-- ---- so every call of `fill_case` and `desk_fill_case`

-- the number and the case afterwards, as the definition has them
abbrev pub Filled : List ℕ → List ℕ → ℕ → List ℕ → Type 0
Filled q s n after = (n ≡ (filling_of q s).0) × (after ≡ (filling_of q s).1)

module _ (κs : Lfts 2) (q q' : Bor (List ℕ)) (s s' : MutBor (List ℕ)) (n : ℕ) where
  -- demand 2
  pub fill_case_says : filling.fill_case.Reads.Post κs (q, (s, tt)) n (q', (s', tt)) → Filled q.now s.now n s'.now
  fill_case_says p = p

  pub desk_fill_case_says : desk.desk_fill_case.Reads.Post κs (q, (s, tt)) n (q', (s', tt)) → Filled q.now s.now n s'.now
  desk_fill_case_says p = p

  -- `fill_case`, and then `read_case` of what it left: accepted, with the old facts and what was found.
  pub fill_case_read : (κ : Lfts 1) (c c' : Bor (List ℕ)) (r : Reading) → filling.fill_case.Reads.Post κs (q, (s, tt)) n (q', (s', tt)) → n ≡ 0
      → c.now ≡ s'.now → cases.read_case.Reads.Post κ (c, tt) r (c', tt)
      → r ≡ accepted (quoted (reading_of s.now).facts (found_for q.now s.now).bid (found_for q.now s.now).offer)
  fill_case_read κ c c' r p done left read =
      read.0 ∙ ap reading_of (left ∙ p.1) ∙ (filled_accepted q.now s.now (sym p.0 ∙ done)).1

-- `desk_fill_case`, and then `desk_check_case` of what it left: accepted.
pub desk_fill_case_checked : (κs : Lfts 2) (κ : Lfts 1) (q q' : Bor (List ℕ)) (s s' : MutBor (List ℕ)) (c c' : Bor (List ℕ)) (n m : ℕ) → desk.desk_fill_case.Reads.Post κs (q, (s, tt)) n (q', (s', tt)) → n ≡ 0
    → c.now ≡ s'.now → desk.desk_check_case.Reads.Post κ (c, tt) m (c', tt) → m ≡ 0
desk_fill_case_checked κs κ q q' s s' c c' n m p done left check =
    check ∙ ap refusal_of (left ∙ p.1) ∙ (floor.fill_facts q.now s.now (sym p.0 ∙ done)).0

-- Two calls, the second on the case that the first left, with the same quotes: the same number, and the same case.
module _ (κs κs' : Lfts 2) (q q' p p' : Bor (List ℕ)) (s s' u u' : MutBor (List ℕ)) (n m : ℕ) (quotes : p.now ≡ q.now) (left : u.now ≡ s'.now) where
  twice : Filled q.now s.now n s'.now → Filled p.now u.now m u'.now → (m ≡ n) × (u'.now ≡ s'.now)
  twice a b =
      let again : filling_of p.now u.now ≡ filling_of q.now s.now =
      ap (λ (l : List ℕ). filling_of l u.now) quotes ∙ ap (filling_of q.now) (left ∙ a.1) ∙ filled_twice q.now s.now in
      (b.0 ∙ ap (λ (x : ℕ × List ℕ). x.0) again ∙ sym a.0, b.1 ∙ ap (λ (x : ℕ × List ℕ). x.1) again ∙ sym a.1)

  pub fill_case_twice : filling.fill_case.Reads.Post κs (q, (s, tt)) n (q', (s', tt)) → filling.fill_case.Reads.Post κs' (p, (u, tt)) m (p', (u', tt))
      → (m ≡ n) × (u'.now ≡ s'.now)
  fill_case_twice a b = twice a b

  pub desk_fill_case_twice : desk.desk_fill_case.Reads.Post κs (q, (s, tt)) n (q', (s', tt)) → desk.desk_fill_case.Reads.Post κs' (p, (u, tt)) m (p', (u', tt))
      → (m ≡ n) × (u'.now ≡ s'.now)
  desk_fill_case_twice a b = twice a b

-- Two calls on the same case, one with the quotes r between a and b and one without them, which change nothing: the same number, and the same case.
module _ (κs κs' : Lfts 2) (a r b : List ℕ) (q q' p p' : Bor (List ℕ)) (s s' u u' : MutBor (List ℕ)) (n m : ℕ) (wa : Whole a) (wr : Whole r)
    (long : q.now ≡ a ++ (r ++ b)) (short : p.now ≡ a ++ b) (case : u.now ≡ s.now) (good : (found_for (a ++ (r ++ b)) s.now).refusal ≡ 0)
    (nothing : ChangesNothing a r b (facts_of s.now).trade.executed.0) where
  alike : Filled q.now s.now n s'.now → Filled p.now u.now m u'.now → (m ≡ n) × (u'.now ≡ s'.now)
  alike x y =
      let same : filling_of p.now u.now ≡ filling_of q.now s.now =
      ap (λ (l : List ℕ). filling_of l u.now) short ∙ ap (filling_of (a ++ b)) case ∙ sym (nothing_filled a r b s.now wa wr good nothing) ∙ sym (ap (λ (l : List ℕ). filling_of l s.now) long) in
      (y.0 ∙ ap (λ (z : ℕ × List ℕ). z.0) same ∙ sym x.0, y.1 ∙ ap (λ (z : ℕ × List ℕ). z.1) same ∙ sym x.1)

  pub fill_case_alike : filling.fill_case.Reads.Post κs (q, (s, tt)) n (q', (s', tt)) → filling.fill_case.Reads.Post κs' (p, (u, tt)) m (p', (u', tt))
      → (m ≡ n) × (u'.now ≡ s'.now)
  fill_case_alike x y = alike x y

  pub desk_fill_case_alike : desk.desk_fill_case.Reads.Post κs (q, (s, tt)) n (q', (s', tt)) → desk.desk_fill_case.Reads.Post κs' (p, (u, tt)) m (p', (u', tt))
      → (m ≡ n) × (u'.now ≡ s'.now)
  desk_fill_case_alike x y = alike x y
