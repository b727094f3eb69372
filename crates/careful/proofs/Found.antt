-- What the answers of `find_cautions` stand on: a head that is a case's picks the five.
use Prim.Native.Nat.{ℕ, ◌≤◌}
use mathlib.Core.Path.{◌≡◌}
use mathlib.Core.List.{List}
use lib.ListN.{length}
use borrow.Author.Tests.{ne_eqb}
use Rattle.wire.proofs.Tests.{none_fails}
use Rattle.forms.proofs.Heads.{has_88}
use Rattle.refusals.specs.Tests.{length_ok, head_fault_of}
use Rattle.careful.specs.Words.{Caution, None, Cautions}
use Rattle.careful.specs.Careful.{no_cautions, cautions_in, cautions_of}

module _ (s : List ℕ) where
  -- bytes that pass the tests 1 and 2 have the 88 of every kind
  pub whole : head_fault_of s ≡ 0 → 88 ≤ length s
  unfolding head_fault_of
  whole h = has_88 (length s) (none_fails (length_ok s) 1 _ tt h).0

  pub of_case : {c : Cautions} → c ≡ cautions_in s → head_fault_of s ≡ 0 → c ≡ cautions_of s
  unfolding cautions_of
  of_case e h = simp h e

  pub of_none : {c : Cautions} → c ≡ no_cautions → (head_fault_of s ≡ 0 → ⊥) → c ≡ cautions_of s
  unfolding cautions_of
  of_none e h = simp (ne_eqb (head_fault_of s) 0 h) e

-- five times none is no caution at all
five_none : (a b c d e : Caution) → a ≡ None → b ≡ None → c ≡ None → d ≡ None → e ≡ None
    → record { bid = a; offer = b; official = c; buyer = d; seller = e } ≡ no_cautions
unfolding no_cautions
five_none a b c d e p q r t u = simp (p, q, r, t, u)

pub of_five : (c : Cautions) → (c.bid ≡ None) × ((c.offer ≡ None) × ((c.official ≡ None) × ((c.buyer ≡ None) × (c.seller ≡ None)))) → c ≡ no_cautions
of_five c e = five_none c.bid c.offer c.official c.buyer c.seller e.0 e.1.0 e.1.1.0 e.1.1.1.0 e.1.1.1.1
