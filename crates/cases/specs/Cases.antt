-- What reading and writing a case answer (RULE R3.0.2, R3.0.3).
use Rattle.std.specs.Prelude.{ℕ, ◌<◌, ◌≡◌, true, List, [], ◌∷◌, ◌++◌, length, replicate, leb, eqb}
use Rattle.wire.specs.Tests.{pick, first_failed}
use Rattle.forms.specs.Forms.{form_length}
use Rattle.record.specs.Record.{facts_of, record_bytes}
use Rattle.refusals.specs.Tests.{length_ok, head_ok, zeros_ok, lists_ok, form_tests, fact_tests}
use Rattle.cases.specs.Words.{Facts, Reading}

-- ---- reading a case tests 1, then 2 to 9
unfoldable pub refusal_of : List ℕ → ℕ
refusal_of s = first_failed (form_tests s ++ fact_tests (facts_of s))

-- what passes the tests 1 to 3
pub record Formed (s : List ℕ) : Type 0 where
  pub whole : length_ok s ≡ true
  pub head : head_ok s ≡ true
  pub zeros : zeros_ok s ≡ true
  pub lists : lists_ok s ≡ true

abbrev pub accepted : Facts → Reading
accepted f = record { refusal = 0; facts = f }

-- beside a number stand the facts of 88 zero bytes
unfoldable pub refused : ℕ → Reading
refused n = record { refusal = n; facts = facts_of (replicate 88 0) }

unfoldable pub reading_of : List ℕ → Reading
reading_of s = pick (eqb (refusal_of s) 0) (accepted (facts_of s)) (refused (refusal_of s))

-- ---- writing a case tests 11 by the length of the facts' own form, then 3 to 9 on the facts; 3 holds of any facts, whose codes have no case
-- outside their lists
unfoldable pub write_refusal_of : Facts → ℕ → ℕ
write_refusal_of f room = first_failed ((11, leb (form_length f.form) room) ∷ fact_tests f)

-- the number, with the bytes that are written into a buffer of `room` bytes: none beside a refusal
unfoldable pub writing_of : Facts → ℕ → ℕ × List ℕ
writing_of f room = pick (eqb (write_refusal_of f room) 0) (0, record_bytes f) (write_refusal_of f room, [])

-- what every value of the type Facts has, and a definition's record need not: a trade number that fits four bytes, codes of four
pub record Held (f : Facts) : Type 0 where
  pub number : f.trade.number < 4294967296
  pub buyer : length f.buyer.code ≡ 4
  pub seller : length f.seller.code ≡ 4
