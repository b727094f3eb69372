use Prim.Native.Nat.{ℕ}
use mathlib.Core.Path.{◌≡◌, refl}
use mathlib.Core.Bool.{Bool, true, false, ◌&&◌, ◌||◌, and-false, false≢true}
use lib.Dec.{ltb}
use borrow.Author.Tests.{ltb-true}
use Rattle.wire.proofs.Tests.{range_low, lt_lit}
use Rattle.refusals.specs.Tests.{code_byte_ok}
use Rattle.faults.proofs.bytes_ok.Goals as goal

-- no byte below '0' is allowed
low : (b : ℕ) → ltb b 48 ≡ true → code_byte_ok b ≡ false
unfolding code_byte_ok
low b h = let l = ltb-true b 48 h in simp (range_low 65 90 b (lt_lit b 48 65 l tt), range_low 48 57 b l)

-- so where one of the four is, the four are no code
low_told : (a b c d : ℕ) → (ltb a 48 || ltb b 48 || ltb c 48 || ltb d 48) ≡ true → false ≡ (code_byte_ok a && code_byte_ok b && code_byte_ok c && code_byte_ok d)
low_told a b c d h = by_test (ltb a 48) (ltb b 48) (ltb c 48) (ltb d 48) refl refl refl refl h where
  by_test : (p q r t : Bool) → ltb a 48 ≡ p → ltb b 48 ≡ q → ltb c 48 ≡ r → ltb d 48 ≡ t → (p || q || r || t) ≡ true
      → false ≡ (code_byte_ok a && code_byte_ok b && code_byte_ok c && code_byte_ok d)
  by_test true q r t ea eb ec ed h = simp (low a ea)
  by_test false true r t ea eb ec ed h = simp (low b eb, and-false)
  by_test false false true t ea eb ec ed h = simp (low c ec, and-false)
  by_test false false false true ea eb ec ed h = simp (low d ed, and-false)
  by_test false false false false ea eb ec ed h = absurd (false≢true h)

pub returns-then-first-second : goal.returns-then-first-second
returns-then-first-second c = let a = c.args in low_told a.first a.second a.third a.last c.if-first-second.true
