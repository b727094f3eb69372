-- What filling answers and leaves of the case, by the test that decides.
use Prim.Native.Nat.{ℕ, ◌≤◌}
use mathlib.Core.Path.{◌≡◌, refl, sym, ap, ◌∙◌}
use mathlib.Core.List.{List}
use lib.ListN.{length, length-set}
use lib.Dec.{eqb}
use native.Mathlib.Omega.{arith}
use borrow.Author.Tests.{eq-eqb, ne_eqb, eqb-true}
use Rattle.wire.proofs.Tests.{either}
use Rattle.cases.specs.Cases.{refusal_of}
use Rattle.record.specs.Record.{facts_of}
use Rattle.earlier.specs.Earlier.{quotes_before_of}
use Rattle.best.specs.Looked.{looked_of}
use Rattle.best.proofs.Own.{own_found, own_most}
use Rattle.filling.specs.Words.{Quote, Trade, Found, Looked, Tried}
use Rattle.filling.specs.Filling.{filled, found_for, fill_refusal_of, filling_of, looked_for, fill_read_of, tried_of}

filled_length : (s : List ℕ) (b o : Quote) → length (filled s b o) ≡ length s
unfolding filled
filled_length s b o = simp length-set

module _ (q s : List ℕ) where
  -- a filling's number, whether or not anything is written
  pub number_told : (filling_of q s).0 ≡ fill_refusal_of q s
  unfolding filling_of
  number_told =
      either (λ (p : ℕ × List ℕ). p.0 ≡ fill_refusal_of q s) (eqb (fill_refusal_of q s) 0) _ _
      (λ h. sym (eqb-true (fill_refusal_of q s) 0 h))
      (λ _. refl)

  -- what the case's bytes become is as long
  pub as_long : length (filling_of q s).1 ≡ length s
  unfolding filling_of
  as_long =
      either (λ (p : ℕ × List ℕ). length p.1 ≡ length s) (eqb (fill_refusal_of q s) 0) _ _
      (λ _. filled_length s (found_for q s).bid (found_for q s).offer)
      (λ _. refl)

  -- no more quotes are read than there can be
  pub read_most : fill_read_of q s ≤ 2000
  unfolding fill_read_of
  read_most = either (λ n. n ≤ 2000) (eqb (refusal_of s) 0) (looked_for q s).examined 0 (λ _. own_most q (facts_of s).trade.executed.0) (λ _. omega arith)

  -- what a call answers, and what it leaves
  abbrev pub Ends : ℕ → List ℕ → Type 0
  Ends r after = (r ≡ (filling_of q s).0) × (after ≡ (filling_of q s).1)

  ends : (p : ℕ × List ℕ) → filling_of q s ≡ p → Ends p.0 p.1
  ends p e = (ap (λ (x : ℕ × List ℕ). x.0) (sym e), ap (λ (x : ℕ × List ℕ). x.1) (sym e))

  -- the number of a filling that is refused
  refuses : (n : ℕ) → fill_refusal_of q s ≡ n → (n ≡ 0 → ⊥) → Ends n s
  unfolding filling_of
  refuses n e h = ends (n, s) (simp (e, ne_eqb n 0 h))

  -- the case fails a test
  pub case_fails : (n : ℕ) → n ≡ refusal_of s → (n ≡ 0 → ⊥) → Ends n s
  unfolding fill_refusal_of
  case_fails n e h = refuses n (simp (← e, ne_eqb n 0 h)) h

  pub tried_none : (n : ℕ) → n ≡ refusal_of s → (n ≡ 0 → ⊥) → ◌≡◌ {A = Tried} (record { refusal = n; examined = 0 }) (tried_of q s)
  unfolding fill_read_of
  tried_none n e h = rw (← (case_fails n e h).0) (simp (← e, ne_eqb n 0 h))

  module _ (n : ℕ) (tested : n ≡ refusal_of s) (good : n ≡ 0) (t : Trade) (read : t ≡ (facts_of s).trade) (l : Looked)
      (looked : l ≡ looked_of q t.executed.0 (quotes_before_of q t.executed.0)) where
    own : l.found ≡ found_for q s
    own = rw (looked, read) (own_found q (facts_of s).trade.executed.0)

    number : fill_refusal_of q s ≡ l.found.refusal
    unfolding fill_refusal_of
    number = simp (eq-eqb (refusal_of s) 0 (sym tested ∙ good)) (ap (λ (f : Found). f.refusal) (sym own))

    -- the quotes do
    pub quotes_fail : (l.found.refusal ≡ 0 → ⊥) → Ends l.found.refusal s
    quotes_fail h = refuses l.found.refusal number h

    -- neither does
    pub fills : l.found.refusal ≡ 0 → Ends 0 (filled s l.found.bid l.found.offer)
    unfolding filling_of
    fills h = ends (0, filled s l.found.bid l.found.offer) (simp (number ∙ h) (ap (λ (f : Found). (0, filled s f.bid f.offer)) (sym own)))

    -- what would be answered, whether they do or not
    pub tried : ◌≡◌ {A = Tried} (record { refusal = l.found.refusal; examined = l.examined }) (tried_of q s)
    unfolding fill_read_of
    tried = rw (number_told ∙ number) (simp (eq-eqb (refusal_of s) 0 (sym tested ∙ good)) (rw (looked, read)))
