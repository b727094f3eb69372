-- The form of a case record (RULE R2.6): what each kind has that the others have not. A further kind is a case more of each definition here and a
-- pair more in Heads; what stands above knows no kind, but for the tests of what its tail may say.
use Rattle.std.specs.Prelude.{ℕ, List, [], length, ltb}
use Rattle.wire.specs.Numbers.{bytes, number_at}
use Rattle.wire.specs.Tests.{pick}
use Rattle.facts.specs.Numbers.{mills}
use Rattle.forms.specs.Words.{Price, Some, None, Form, One, Two}

-- how many bytes a case has
abbrev pub form_length : Form → ℕ
form_length One = 88
form_length (Two differential) = 92

-- and the number of its kind
abbrev pub form_kind : Form → ℕ
form_kind One = 1
form_kind (Two differential) = 2

-- the permitted differential, which kind 1 has not
abbrev pub differential_of : Form → Price
differential_of One = None
differential_of (Two differential) = Some differential

-- ---- the bytes behind the 88 that every kind has: 88 permitted differential
abbrev pub form_tail : Form → List ℕ
form_tail One = []
form_tail (Two differential) = bytes 4 differential.0

-- what they say: the form goes by the length, and test 2 holds the head against it
unfoldable pub form_of : List ℕ → Form
form_of s = pick (ltb (length s) 92) One (Two (mills (number_at 4 s 88)))
