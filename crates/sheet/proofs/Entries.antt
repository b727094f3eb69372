-- What a case adds to a sheet's answer, by the number that reading it gave.
use Prim.Native.Nat.{ℕ, ◌≤◌}
use mathlib.Core.Path.{◌≡◌, refl, sym, ap, ◌∙◌}
use mathlib.Core.Bool.{Bool, true, false}
use mathlib.Core.List.{List}
use native.Mathlib.Omega.{arith}
use lib.ListN.{length}
use lib.Dec.{eqb}
use mathlib.Core.Logic.{◌⊎◌, inl, inr, ⊎_elim}
use Rattle.wire.specs.Laid.{laid}
use borrow.Author.Tests.{eq-eqb, ne_eqb, eqb-true, eqb-false}
use Rattle.record.specs.Record.{facts_of}
use Rattle.cases.specs.Cases.{refusal_of, reading_of}
use Rattle.cases.proofs.Laws.{read_number, accepted_at_lem}
use Rattle.answer.specs.Answer.{answer_of}
use Rattle.answer.proofs.Cases.{answer_length}
use Rattle.sheet.specs.Words.{Reading}
use Rattle.sheet.specs.Sheet.{refusal_bytes, entry_bytes, ruled_one}

refusal_length : (k n : ℕ) → length (refusal_bytes k n) ≡ 12
unfolding refusal_bytes
refusal_length k n = refl

-- a case counts one if it is ruled
module _ (r : Reading) where
  pub one_ruled : r.refusal ≡ 0 → ruled_one r ≡ 1
  unfolding ruled_one
  one_ruled h = simp (eq-eqb r.refusal 0 h)

  pub one_refused : (r.refusal ≡ 0 → ⊥) → ruled_one r ≡ 0
  unfolding ruled_one
  one_refused h = simp (ne_eqb r.refusal 0 h)

module _ (k : ℕ) (r : Reading) where
  pub entry_ruled : r.refusal ≡ 0 → entry_bytes k r ≡ answer_of r.facts
  unfolding entry_bytes
  entry_ruled h = simp (eq-eqb r.refusal 0 h)

  pub entry_refused : (r.refusal ≡ 0 → ⊥) → entry_bytes k r ≡ refusal_bytes k r.refusal
  unfolding entry_bytes
  entry_refused h = simp (ne_eqb r.refusal 0 h)

  -- an entry has 96 bytes and counts one, or it has 12 and counts none
  pub entry_length : ((length (entry_bytes k r) ≡ 96) × (ruled_one r ≡ 1)) ⊎ ((length (entry_bytes k r) ≡ 12) × (ruled_one r ≡ 0))
  entry_length = by_test (eqb r.refusal 0) refl where
    by_test : (b : Bool) → eqb r.refusal 0 ≡ b → ((length (entry_bytes k r) ≡ 96) × (ruled_one r ≡ 1)) ⊎ ((length (entry_bytes k r) ≡ 12) × (ruled_one r ≡ 0))
    by_test true e = let h = eqb-true r.refusal 0 e in inl (ap length (entry_ruled h) ∙ answer_length r.facts, one_ruled r h)
    by_test false e = let h = eqb-false r.refusal 0 e in inr (ap length (entry_refused h) ∙ refusal_length k r.refusal, one_refused r h)

  pub entry_most : length (entry_bytes k r) ≤ 96
  entry_most = ⊎_elim (λ e. omega arith) (λ e. omega arith) entry_length

  pub one_most : ruled_one r ≤ 1
  one_most = ⊎_elim (λ e. omega arith) (λ e. omega arith) entry_length

-- ---- what a case adds, from its parts: the number of its first failed test, and what was written for it
module _ (s : List ℕ) (n : ℕ) (e : n ≡ refusal_of s) where
  pub told_ruled : n ≡ 0 → (reading_of s).refusal ≡ 0
  told_ruled h = read_number s ∙ sym e ∙ h

  pub told_refused : (n ≡ 0 → ⊥) → (reading_of s).refusal ≡ 0 → ⊥
  told_refused h z = h (e ∙ sym (read_number s) ∙ z)

  pub told_number : (reading_of s).refusal ≡ n
  told_number = read_number s ∙ sym e

  pub told_facts : n ≡ 0 → (reading_of s).facts ≡ facts_of s
  told_facts h = ap (λ (r : Reading). r.facts) (accepted_at_lem s (sym e ∙ h))

pub entered : (f : ℕ → Reading → List ℕ) (k : ℕ) (r : Reading) (w l m : List ℕ) (bytes one : ℕ)
    → f k r ≡ w → bytes ≡ length w → ruled_one r ≡ one → m ≡ laid w l
    → (bytes ≡ length (f k r)) × (one ≡ ruled_one r) × (m ≡ laid (f k r) l)
entered f k r w l m bytes one is long counts wrote = rw is (long, sym counts, wrote)

module _ (k : ℕ) (s l m : List ℕ) (n : ℕ) (e : n ≡ refusal_of s) where
  abbrev Entered : ℕ → ℕ → Type 0
  Entered bytes ruled = (bytes ≡ length (entry_bytes k (reading_of s))) × (ruled ≡ ruled_one (reading_of s)) × (m ≡ laid (entry_bytes k (reading_of s)) l)

  pub enter_ruled : n ≡ 0 → m ≡ laid (answer_of (facts_of s)) l → Entered 96 1
  enter_ruled h w =
      let z = told_ruled s n e h in
      entered entry_bytes k (reading_of s) (answer_of (facts_of s)) l m 96 1 (entry_ruled k (reading_of s) z ∙ ap answer_of (told_facts s n e h)) (sym (answer_length (facts_of s))) (one_ruled (reading_of s) z) w

  pub enter_refused : (n ≡ 0 → ⊥) → m ≡ laid (refusal_bytes k n) l → Entered 12 0
  enter_refused h w =
      let z = told_refused s n e h in
      entered entry_bytes k (reading_of s) (refusal_bytes k n) l m 12 0 (entry_refused k (reading_of s) z ∙ ap (refusal_bytes k) (told_number s n e)) (sym (refusal_length k n)) (one_refused (reading_of s) z) w
