-- Demand 3 in bytes (RULE R12.5, R12.6, R13.0.3): two cases that are alike but for one party's member code and limit, and what is written for them.
-- `elements w s i` are the w bytes of s from place i on.
use Rattle.std.specs.Prelude.{ℕ, ◌+◌, ◌≤◌, ◌<◌, ◌≡◌, ◌||◌, ◌⊎◌, List, [], ◌∷◌, get_or, eqb}
use Rattle.wire.specs.Numbers.{elements, number_at}
use Rattle.wire.specs.Tests.{pick}
use Rattle.facts.specs.Numbers.{price_of}
use Rattle.record.specs.Record.{facts_of}
use Rattle.act.specs.Tested.{Alike}
use Rattle.alike.specs.Tested.{tested_in}
use Rattle.alike.specs.Words.{Price, Side, Buy, Sell}

-- ---- the cases: a party's code stands at 48 (buyer) or 56 (seller), its limit behind it
abbrev pub party_place : Side → ℕ
party_place Buy = 48
party_place Sell = 56

abbrev pub code_in : Side → List ℕ → List ℕ
code_in who s = elements 4 s (party_place who)

abbrev pub limit_in : Side → List ℕ → Price
limit_in who s = price_of (number_at 4 s (party_place who + 4))

-- a place before that party's eight bytes, or after them
abbrev pub Outside : Side → ℕ → Type 0
Outside who i = (i < party_place who) ⊎ (party_place who + 8 ≤ i)

-- the same byte at every place but those
abbrev pub AlikeBut : Side → List ℕ → List ℕ → Type 0
AlikeBut who s t = (i : ℕ) → Outside who i → get_or s i 0 ≡ get_or t i 0

-- the price that the party's limit is tested against, if it is, is within both limits or outside both
abbrev pub UntoldBytes : Side → List ℕ → List ℕ → Type 0
UntoldBytes who s t = Alike who (tested_in (facts_of s) who) (limit_in who s) (limit_in who t)

-- ---- the answers: the notice to the other party begins at 64 (the seller's) or 32 (the buyer's)
abbrev pub other_notice : Side → ℕ
other_notice Buy = 64
other_notice Sell = 32

-- at `at` in an answer stands this code where its outcome, byte 8, is 1 or 2, and zeros where it is not
abbrev pub ShownAt : ℕ → List ℕ → List ℕ → Type 0
ShownAt at a code = elements 4 a at ≡ pick (eqb (get_or a 8 0) 1 || eqb (get_or a 8 0) 2) code (0 ∷ 0 ∷ 0 ∷ 0 ∷ [])

-- a is written for the case s and b for the case t
pub record Blind (who : Side) (s t a b : List ℕ) : Type 0 where
  -- the ruling record is the same
  pub ruling : elements 32 a 0 ≡ elements 32 b 0
  -- the other party's notice is the same in its bytes 0 to 23 and 28 to 31
  pub before : elements 24 a (other_notice who) ≡ elements 24 b (other_notice who)
  pub after : elements 4 a (other_notice who + 28) ≡ elements 4 b (other_notice who + 28)
  -- and in its bytes 24 to 27 the party's code shows exactly when the trade is repriced or undone
  pub first : ShownAt (other_notice who + 24) a (code_in who s)
  pub second : ShownAt (other_notice who + 24) b (code_in who t)
