-- The test of the field that is told is the case's refusal, whatever the bytes.
use Prim.Native.Nat.{ℕ}
use mathlib.Core.Path.{◌≡◌, refl, sym, ap, ◌∙◌}
use mathlib.Core.Bool.{true, and-true}
use mathlib.Core.List.{List, [], ◌∷◌, ◌++◌}
use Rattle.wire.specs.Tests.{first_failed}
use Rattle.forms.specs.Forms.{form_of}
use Rattle.record.specs.Record.{facts_of}
use Rattle.refusals.specs.Tests.{length_ok, byte_tests, fact_tests}
use Rattle.cases.specs.Cases.{refusal_of}
use Rattle.blame.specs.Words.{Form, One, Two, Field, None, Some}
use Rattle.blame.specs.Fields.{field_ok, case_length, head_length, head_kind, head_fields, zero_field, coded_field, coded_fields, letter_field, code_fields, money_field, differential_fields, price_fields, count_field, count_fields, clock_field, lapse_field, time_fields, limit_field, limit_fields, terms_field, agreement_fields, inside_blame, blame_of, number_of}
use Rattle.blame.proofs.Tests.{length_asked, head_asked, coded_asked, codes_asked, prices_asked, counts_asked, times_asked, limits_asked, agreement_asked}
use Rattle.blame.proofs.Row.{test_by_test, OfTest, row_tells}

differential_of_test : (form : Form) (s : List ℕ) → OfTest 5 (differential_fields form s)
unfolding money_field
differential_of_test One s = tt
differential_of_test (Two d) s = (refl, tt)

prices_of_test : (s : List ℕ) → OfTest 5 (price_fields s)
unfolding money_field
prices_of_test s = (refl, (refl, (refl, (refl, (refl, (refl, (refl, differential_of_test (form_of s) s)))))))

coded_of_test : (s : List ℕ) → OfTest 3 (coded_fields s)
unfolding zero_field coded_field
coded_of_test s = (refl, (refl, (refl, (refl, (refl, (refl, (refl, (refl, (refl, (refl, tt))))))))))

codes_of_test : (s : List ℕ) → OfTest 4 (code_fields s)
unfolding letter_field
codes_of_test s = (refl, (refl, (refl, (refl, (refl, (refl, (refl, (refl, tt))))))))

length_of_test : (s : List ℕ) → OfTest 1 (case_length s ∷ [])
unfolding case_length
length_of_test s = (refl, tt)

module _ (s : List ℕ) where
  -- of a case that has the length of some kind
  inside_number : length_ok s ≡ true → number_of (inside_blame s) ≡ first_failed (byte_tests s ++ fact_tests (facts_of s))
  unfolding inside_blame head_length head_kind count_field clock_field lapse_field limit_field terms_field
  inside_number long =
      row_tells 2 (head_fields s) _ _ _ (refl, (refl, tt)) (head_asked s long)
      (λ headed. row_tells 3 (coded_fields s) _ _ _ (coded_of_test s) (coded_asked s)
      (λ coded. row_tells 4 (code_fields s) _ _ _ (codes_of_test s) (codes_asked s)
      (λ lettered. row_tells 5 (price_fields s) _ _ _ (prices_of_test s) (prices_asked s)
      (λ priced. row_tells 6 (count_fields s) _ _ _ (refl, (refl, (refl, tt))) (counts_asked s)
      (λ counted. row_tells 7 (time_fields s) _ _ _ (refl, (refl, (refl, (refl, tt)))) (times_asked s)
      (λ timed. row_tells 8 (limit_fields s) _ _ _ (refl, (refl, tt)) (limits_asked s priced)
      (λ limited. row_tells 9 (agreement_fields s) None _ _ (refl, (refl, tt)) (agreement_asked s priced timed) (λ agreed. refl))))))))

  pub blamed_number : number_of (blame_of s) ≡ refusal_of s
  unfolding refusal_of
  blamed_number =
      ap number_of (test_by_test s)
      ∙ row_tells 1 (case_length s ∷ []) (inside_blame s) _ _ (length_of_test s) (and-true (field_ok (case_length s)) ∙ length_asked s) inside_number

  -- a field is told with the number of the refusal
  pub told_number : (f : Field) → blame_of s ≡ Some f → f.test ≡ refusal_of s
  told_number f e = sym (ap number_of e) ∙ blamed_number

  -- and none where the case is accepted: one way here, the other in Order
  pub sound_accepted : blame_of s ≡ None → refusal_of s ≡ 0
  sound_accepted e = sym blamed_number ∙ ap number_of e
