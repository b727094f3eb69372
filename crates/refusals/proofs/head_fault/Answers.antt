use Prim.Native.Nat.{ℕ}
use mathlib.Core.Path.{◌≡◌, sym, ◌∙◌}
use mathlib.Core.Bool.{Bool, true, false}
use mathlib.Core.List.{List}
use Rattle.wire.specs.Tests.{pick}
use Rattle.forms.proofs.Heads.{has_88}
use Rattle.refusals.specs.Tests.{length_ok, head_ok, head_fault_of}
use Rattle.refusals.proofs.head_fault.Goals as goal

-- Another length is told before anything else.
untold : (s : List ℕ) → length_ok s ≡ false → 1 ≡ head_fault_of s
unfolding head_fault_of
untold s length = simp length

-- Where the length is right, the head tells.
told : (s : List ℕ) {head : Bool} {two : ℕ} → length_ok s ≡ true → head ≡ head_ok s → two ≡ pick head 0 2 → two ≡ head_fault_of s
unfolding head_fault_of
told s length head two = simp length cc

pub returns-then-not-is_length : goal.returns-then-not-is_length
returns-then-not-is_length c = untold _ (sym c.is_length.ensures ∙ c.if-not-is_length.true)

pub head_ok-requires : goal.head_ok-requires
head_ok-requires c = has_88 _ (sym c.is_length.ensures ∙ c.if-not-is_length.false)

pub returns : goal.returns
returns c = told _ (sym c.is_length.ensures ∙ c.if-not-is_length.false) c.head_ok.ensures c.unless.ensures
