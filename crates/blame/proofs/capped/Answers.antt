use native.Mathlib.Omega.{arith}
use lib.Dec.{ltb}
use Prim.Native.Nat.{ℕ, min}
use mathlib.Core.Bool.{Bool, true, false}
use mathlib.Core.Path.{◌≡◌, refl, ◌∙◌}
use borrow.Author.Tests.{ltb-true, ltb-false}
use Rattle.wire.specs.Tests.{pick}
use Rattle.blame.specs.Fields.{capped}
use Rattle.blame.proofs.capped.Goals as goal

least : (n : ℕ) → min n 4294967295 ≡ capped n
unfolding capped
least n = by_test (ltb n 4294967295) refl where
  by_test : (t : Bool) → ltb n 4294967295 ≡ t → min n 4294967295 ≡ pick t n 4294967295
  by_test true h = let l = ltb-true n 4294967295 h in omega arith
  by_test false h = let l = ltb-false n 4294967295 h in omega arith

pub returns : goal.returns
returns c = c.min.ensures ∙ least _
