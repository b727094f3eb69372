-- What reading and writing answer, by the test that decides.
use Prim.Native.Nat.{ℕ, ◌≤◌, ◌<◌}
use mathlib.Core.Path.{◌≡◌, refl, sym, ap, ◌∙◌}
use mathlib.Core.Bool.{Bool, true, false, ◌&&◌}
use mathlib.Core.List.{List, [], ◌∷◌}
use lib.ListN.{length}
use lib.Dec.{leb, eqb}
use borrow.Author.Tests.{le-leb, lt-leb, leb-true, eq-eqb, ne_eqb, eqb-true, eqb-false}
use Rattle.wire.specs.Numbers.{elements}
use Rattle.wire.specs.Tests.{pick}
use Rattle.wire.proofs.Tests.{both_true, none_fails, first_append}
use Rattle.forms.specs.Forms.{form_length}
use Rattle.forms.specs.Heads.{known, size_in, kind_in, IsCase}
use Rattle.forms.proofs.Heads.{has_88, case_length_lem}
use Rattle.record.specs.Record.{party_at, facts_of, record_bytes}
use Rattle.refusals.specs.Tests.{length_ok, head_ok, zeros_ok, lists_ok, code_ok, codes_ok, coded_ok, head_tests, form_tests, fact_tests, head_fault_of, form_fault_of, later_fault_of, fault_of}
use Rattle.faults.proofs.Row.{codes_stop, codes_pass}
use Rattle.cases.specs.Words.{Facts}
use Rattle.cases.specs.Cases.{refusal_of, Formed, accepted, refused, reading_of, write_refusal_of, writing_of}

-- ---- reading
module _ (s : List ℕ) where
  in_order : refusal_of s ≡ pick (eqb (form_fault_of s) 0) (fault_of (facts_of s)) (form_fault_of s)
  unfolding refusal_of form_fault_of fault_of
  in_order = first_append (form_tests s) (fact_tests (facts_of s)) (refl, (refl, (refl, tt)))

  -- a reading's number is that of the first test that fails
  pub read_number : (reading_of s).refusal ≡ refusal_of s
  unfolding reading_of refused
  read_number = by_test (eqb (refusal_of s) 0) refl where
    by_test : (t : Bool) → eqb (refusal_of s) 0 ≡ t → (pick t (accepted (facts_of s)) (refused (refusal_of s))).refusal ≡ refusal_of s
    by_test true h = sym (eqb-true (refusal_of s) 0 h)
    by_test false h = refl

  pub accepted_at_lem : refusal_of s ≡ 0 → reading_of s ≡ accepted (facts_of s)
  unfolding reading_of
  accepted_at_lem e = simp (eq-eqb (refusal_of s) 0 e)

  pub refused_at : (n : ℕ) → refusal_of s ≡ n → (n ≡ 0 → ⊥) → reading_of s ≡ refused n
  unfolding reading_of
  refused_at n e h = simp (e, ne_eqb n 0 h)

  -- the bytes are not a case record: 1 to 3
  pub form_decides : (n : ℕ) → n ≡ form_fault_of s → (n ≡ 0 → ⊥) → n ≡ refusal_of s
  form_decides n e h = sym (in_order ∙ simp (ne_eqb (form_fault_of s) 0 (λ z. h (e ∙ z))) (sym e))

  -- they are, and the facts decide: 4 to 9
  pub facts_decide : (n : ℕ) (f : Facts) → form_fault_of s ≡ 0 → f ≡ facts_of s → n ≡ fault_of f → n ≡ refusal_of s
  facts_decide n f formed says e = sym (in_order ∙ simp (eq-eqb (form_fault_of s) 0 formed) (ap fault_of (sym says) ∙ sym e))

  -- ---- what passes the tests 1 to 3
  pub formed : form_fault_of s ≡ 0 → Formed s
  unfolding form_fault_of
  formed e =
      let t1 = none_fails (length_ok s) 1 _ tt e in
      let t2 = none_fails (head_ok s) 2 _ tt t1.1 in
      let t3 = none_fails (zeros_ok s && lists_ok s) 3 _ tt t2.1 in
      let z = both_true (zeros_ok s) (lists_ok s) t3.0 in
      record { whole = t1.0; head = t2.0; zeros = z.0; lists = z.1 }

  -- bytes that pass them so do, whatever the facts
  pub well_formed : Formed s → form_fault_of s ≡ 0
  unfolding form_fault_of
  well_formed f = simp (f.whole, f.head, f.zeros, f.lists)

  -- ---- what is accepted
  pub accepts : (reading_of s).refusal ≡ 0 → refusal_of s ≡ 0
  accepts e = sym read_number ∙ e

  pub passed_form : refusal_of s ≡ 0 → form_fault_of s ≡ 0
  passed_form e = by_test (eqb (form_fault_of s) 0) refl (sym in_order ∙ e) where
    by_test : (t : Bool) → eqb (form_fault_of s) 0 ≡ t → pick t (fault_of (facts_of s)) (form_fault_of s) ≡ 0 → form_fault_of s ≡ 0
    by_test true h z = eqb-true (form_fault_of s) 0 h
    by_test false h z = z

  -- every kind has the 88 bytes from which the facts are read
  pub passed_whole : refusal_of s ≡ 0 → 88 ≤ length s
  passed_whole e = has_88 (length s) (formed (passed_form e)).whole

  -- what passes the test 2 is a case, as long as its head says
  head_case : head_ok s ≡ true → IsCase s
  unfolding head_ok
  head_case e =
      let h = both_true (known (size_in s) (kind_in s)) (eqb (size_in s) (length s)) e in
      record { pair = h.0; long = sym (eqb-true (size_in s) (length s) h.1) }

  -- so what is accepted is one
  pub passed_case : refusal_of s ≡ 0 → IsCase s
  passed_case e = head_case (formed (passed_form e)).head

  -- ---- length and head, asked before the rest: 1 and 2
  head_first : form_fault_of s ≡ pick (eqb (head_fault_of s) 0) (pick (coded_ok s) 0 3) (head_fault_of s)
  unfolding form_fault_of head_fault_of
  head_first = first_append (head_tests s) ((3, coded_ok s) ∷ []) (refl, (refl, tt))

  pub head_decides : (n : ℕ) → n ≡ head_fault_of s → (n ≡ 0 → ⊥) → n ≡ refusal_of s
  head_decides n e h = form_decides n (e ∙ sym (head_first ∙ simp (ne_eqb (head_fault_of s) 0 (λ z. h (e ∙ z))))) h

  pub head_passed : head_fault_of s ≡ 0 → IsCase s
  unfolding head_fault_of
  head_passed e = head_case (none_fails (head_ok s) 2 _ tt (none_fails (length_ok s) 1 _ tt e).1).0

  -- ---- what is known to be a case passes the tests 1 and 2
  module _ (c : IsCase s) where
    pub case_passes : (length_ok s ≡ true) × (head_ok s ≡ true)
    unfolding head_ok
    case_passes = (case_length_lem s c.pair c.long, simp (c.pair, eq-eqb (size_in s) (length s) (sym c.long)))

    pub case_whole : 88 ≤ length s
    case_whole = has_88 (length s) case_passes.0

    -- so test 3 decides
    pub coded_decides : coded_ok s ≡ false → 3 ≡ refusal_of s
    unfolding form_fault_of
    coded_decides e = form_decides 3 (simp (case_passes.0, case_passes.1, e)) (eqb-false 3 0 refl)

    -- or test 4, asked of the codes where they stand, or the facts from test 5 on
    module _ (coded : coded_ok s ≡ true) where
      case_formed : form_fault_of s ≡ 0
      unfolding form_fault_of
      case_formed = simp (case_passes.0, case_passes.1, coded)

      codes_told : (code_ok (elements 4 s 48) && code_ok (elements 4 s 56)) ≡ codes_ok (facts_of s).buyer (facts_of s).seller
      unfolding codes_ok facts_of party_at
      codes_told = refl

      pub codes_decide : (code_ok (elements 4 s 48) && code_ok (elements 4 s 56)) ≡ false → 4 ≡ refusal_of s
      codes_decide e = facts_decide 4 (facts_of s) case_formed refl (codes_stop (facts_of s) (sym codes_told ∙ e))

      pub later_decide : (n : ℕ) (f : Facts) → (code_ok (elements 4 s 48) && code_ok (elements 4 s 56)) ≡ true → f ≡ facts_of s → n ≡ later_fault_of f → n ≡ refusal_of s
      later_decide n f e says told =
          facts_decide n (facts_of s) case_formed refl (codes_pass (facts_of s) n (sym codes_told ∙ e) (told ∙ ap later_fault_of says))

  pub accepted_form : (reading_of s).refusal ≡ 0 → form_fault_of s ≡ 0
  accepted_form e = passed_form (accepts e)

  pub accepted_reading : (reading_of s).refusal ≡ 0 → reading_of s ≡ accepted (facts_of s)
  accepted_reading e = accepted_at_lem (accepts e)

  pub passed_facts : refusal_of s ≡ 0 → fault_of (facts_of s) ≡ 0
  passed_facts e = sym (simp (eq-eqb (form_fault_of s) 0 (passed_form e)) at in_order) ∙ e

  pub accepted_facts : (reading_of s).refusal ≡ 0 → fault_of (facts_of s) ≡ 0
  accepted_facts e = passed_facts (accepts e)

-- ---- writing
module _ (f : Facts) (room : ℕ) where
  refused_room : room < form_length f.form → write_refusal_of f room ≡ 11
  unfolding write_refusal_of
  refused_room h = simp (lt-leb (form_length f.form) room h)

  in_room : form_length f.form ≤ room → write_refusal_of f room ≡ fault_of f
  unfolding write_refusal_of fault_of
  in_room h = simp (le-leb (form_length f.form) room h)

  refusing : (n : ℕ) → write_refusal_of f room ≡ n → (n ≡ 0 → ⊥) → writing_of f room ≡ (n, [])
  unfolding writing_of
  refusing n e h = simp (e, ne_eqb n 0 h)

  pub writes_short : room < form_length f.form → writing_of f room ≡ (11, [])
  writes_short h = refusing 11 (refused_room h) (eqb-false 11 0 refl)

  pub writes_refused : (n : ℕ) → form_length f.form ≤ room → n ≡ fault_of f → (n ≡ 0 → ⊥) → writing_of f room ≡ (n, [])
  writes_refused n h e k = refusing n (in_room h ∙ sym e) k

  pub writes_facts : form_length f.form ≤ room → fault_of f ≡ 0 → writing_of f room ≡ (0, record_bytes f)
  unfolding writing_of
  writes_facts h e = simp (eq-eqb (write_refusal_of f room) 0 (in_room h ∙ e))

  -- what is written had room and passed the tests
  pub writes : (writing_of f room).0 ≡ 0 → (form_length f.form ≤ room) × (fault_of f ≡ 0)
  unfolding writing_of write_refusal_of fault_of
  writes e = by_test (eqb (write_refusal_of f room) 0) refl e where
    passed : write_refusal_of f room ≡ 0 → (form_length f.form ≤ room) × (fault_of f ≡ 0)
    passed z = let t = none_fails (leb (form_length f.form) room) 11 _ tt z in (leb-true (form_length f.form) room t.0, t.1)

    by_test : (t : Bool) → eqb (write_refusal_of f room) 0 ≡ t → (pick {A = ℕ × List ℕ} t (0, record_bytes f) (write_refusal_of f room, [])).0 ≡ 0 → (form_length f.form ≤ room) × (fault_of f ≡ 0)
    by_test true h z = passed (eqb-true (write_refusal_of f room) 0 h)
    by_test false h z = passed z
