-- A case filled: which numbers, what it becomes, and that filling it once more changes nothing.
use Prim.Native.Nat.{ℕ}
use mathlib.Core.Path.{◌≡◌, refl, sym, ap, ◌∙◌}
use mathlib.Core.Bool.{Bool, true, false}
use mathlib.Core.List.{List}
use lib.Dec.{eqb}
use native.Mathlib.Omega.{arith}
use borrow.Author.Tests.{eq-eqb, eqb-true, eqb-false}
use Rattle.wire.specs.Tests.{pick}
use Rattle.wire.proofs.Tests.{either}
use Rattle.record.specs.Record.{facts_of}
use Rattle.cases.specs.Cases.{refusal_of}
use Rattle.cases.proofs.Laws.{passed_whole}
use Rattle.quotes.specs.Quotes.{posted_in, quotes_refusal_of}
use Rattle.best.specs.declared.Found.{Found}
use Rattle.earlier.specs.Earlier.{earlier, quotes_before_of}
use Rattle.best.specs.declared.Looked.{Looked}
use Rattle.best.specs.Examined.{examined_in}
use Rattle.best.specs.Found.{found_of}
use Rattle.best.specs.Looked.{looked_in}
use Rattle.best.proofs.Own.{found_number, own_looked}
use Rattle.filling.specs.Words.{Facts}
use Rattle.filling.specs.Filling.{quoted, filled, found_for, fill_refusal_of, filling_of, looked_for, fill_read_of}
use Rattle.filling.proofs.Answers.{number_told}
use Rattle.lookups.proofs.Fit.{found_passes}
use Rattle.lookups.proofs.Counted.{quotes_first}
use Rattle.lookups.proofs.Filled.{filled_accepted, filled_again}

module _ (q s : List ℕ) where
  -- a filling that is refused leaves the case as it was
  pub refused_kept : ((filling_of q s).0 ≡ 0 → ⊥) → (filling_of q s).1 ≡ s
  unfolding filling_of
  refused_kept h =
      either (λ (p : ℕ × List ℕ). (p.0 ≡ 0 → ⊥) → p.1 ≡ s) (eqb (fill_refusal_of q s) 0) (0, filled s (found_for q s).bid (found_for q s).offer)
      (fill_refusal_of q s, s) (λ e g. absurd (g refl)) (λ e g. refl) h

  -- for a case that is not filled nothing is read
  pub refused_read : ((filling_of q s).0 ≡ 0 → ⊥) → fill_read_of q s ≡ 0
  unfolding fill_read_of fill_refusal_of
  refused_read h = by_test (eqb (refusal_of s) 0) refl where
    t : ℕ
    t = (facts_of s).trade.executed.0

    by_test : (b : Bool) → eqb (refusal_of s) 0 ≡ b → pick b (looked_for q s).examined 0 ≡ 0
    by_test false e = refl
    by_test true e =
        let quotes : quotes_refusal_of q t ≡ 0 → ⊥
        = λ g. h (number_told q s ∙ simp e (found_number q t ∙ g)) in
        ap (λ (l : Looked). l.examined) (quotes_first q t (quotes_before_of q t) quotes)

  module _ (done : (filling_of q s).0 ≡ 0) where
    none : fill_refusal_of q s ≡ 0
    none = sym (number_told q s) ∙ done

    -- what is filled was accepted, and so were the quotes
    pub case_good : refusal_of s ≡ 0
    unfolding fill_refusal_of
    case_good = by_test (eqb (refusal_of s) 0) refl none where
      by_test : (b : Bool) → eqb (refusal_of s) 0 ≡ b → pick b (found_for q s).refusal (refusal_of s) ≡ 0 → refusal_of s ≡ 0
      by_test true e g = eqb-true (refusal_of s) 0 e
      by_test false e g = g

    pub quotes_good : (found_for q s).refusal ≡ 0
    unfolding fill_refusal_of
    quotes_good = simp (eq-eqb (refusal_of s) 0 case_good) at none

    -- the quotes that are read for it are those of the lookup
    pub fill_read : fill_read_of q s ≡ examined_in (earlier (facts_of s).trade.executed.0 (posted_in q))
    unfolding fill_read_of looked_in
    fill_read =
        let t = (facts_of s).trade.executed.0 in
        simp (eq-eqb (refusal_of s) 0 case_good) (ap (λ (l : Looked). l.examined) (own_looked q t (sym (found_number q t) ∙ quotes_good)))

    pub fill_bytes : (filling_of q s).1 ≡ filled s (found_for q s).bid (found_for q s).offer
    unfolding filling_of
    fill_bytes = simp (eq-eqb (fill_refusal_of q s) 0 none)

    pub fill_facts : (refusal_of (filling_of q s).1 ≡ 0) × (facts_of (filling_of q s).1 ≡ quoted (facts_of s) (found_for q s).bid (found_for q s).offer)
    fill_facts =
        let p = found_passes q (facts_of s).trade.executed.0 in
        rw fill_bytes (filled_accepted s (found_for q s).bid (found_for q s).offer case_good p.0 p.1)

    -- the execution time is what it was, so what is found is the same
    same_found : found_for q (filling_of q s).1 ≡ found_for q s
    same_found = ap (λ (f : Facts). found_of q f.trade.executed.0) fill_facts.1

    same_refusal : fill_refusal_of q (filling_of q s).1 ≡ 0
    unfolding fill_refusal_of
    same_refusal = simp (eq-eqb (refusal_of (filling_of q s).1) 0 fill_facts.0) (ap (λ (f : Found). f.refusal) same_found ∙ quotes_good)

    twice : (t : List ℕ) → t ≡ filled s (found_for q s).bid (found_for q s).offer → fill_refusal_of q t ≡ 0 → found_for q t ≡ found_for q s → filling_of q t ≡ filling_of q s
    unfolding filling_of
    twice t is good same =
        simp (eq-eqb (fill_refusal_of q t) 0 good, eq-eqb (fill_refusal_of q s) 0 none)
        (rw (same, is) (ap (λ (l : List ℕ). (0, l)) (filled_again s (found_for q s).bid (found_for q s).offer (omega (arith, passed_whole s case_good)))))

    again : filling_of q (filling_of q s).1 ≡ filling_of q s
    again = twice (filling_of q s).1 fill_bytes same_refusal same_found

  -- filled twice is filled once
  pub filled_twice : filling_of q (filling_of q s).1 ≡ filling_of q s
  filled_twice = by_test (eqb (filling_of q s).0 0) refl where
    by_test : (b : Bool) → eqb (filling_of q s).0 0 ≡ b → filling_of q (filling_of q s).1 ≡ filling_of q s
    by_test true h = again (eqb-true (filling_of q s).0 0 h)
    by_test false h = ap (filling_of q) (refused_kept (eqb-false (filling_of q s).0 0 h))
