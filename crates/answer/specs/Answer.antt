-- What ruling one case answers (RULE R3.0.4, R10.1, R10.2).
use Rattle.std.specs.Prelude.{ℕ, Bool, List, [], ◌∷◌, ◌++◌, leb, eqb}
use Rattle.wire.specs.Tests.{pick, first_failed}
use Rattle.record.specs.Record.{facts_of}
use Rattle.refusals.specs.Tests.{length_ok, byte_tests, fact_tests}
use Rattle.ruling.specs.Ruling.{ruling_of}
use Rattle.notices.specs.Records.{answer_bytes}
use Rattle.facts.specs.declared.Facts.{Facts}

-- ---- ruling a case tests 1, then 11 on the answer buffer's length, then 2 to 9
abbrev pub case_tests : List ℕ → ℕ → List (ℕ × Bool)
case_tests s room = (1, length_ok s) ∷ (11, leb 96 room) ∷ byte_tests s ++ fact_tests (facts_of s)

unfoldable pub case_refusal_of : List ℕ → ℕ → ℕ
case_refusal_of s room = first_failed (case_tests s room)

-- ---- the 96 bytes of the ruling on these facts
unfoldable pub answer_of : Facts → List ℕ
answer_of f = answer_bytes (ruling_of f) f.buyer.code f.seller.code

-- ---- the number, with the bytes that are written into a buffer of `room` bytes: none beside a refusal
unfoldable pub case_of : List ℕ → ℕ → ℕ × List ℕ
case_of s room = pick (eqb (case_refusal_of s room) 0) (0, answer_of (facts_of s)) (case_refusal_of s room, [])
