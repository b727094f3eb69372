use Prim.Native.Nat.{ℕ}
use mathlib.Core.Path.{ap}
use Rattle.cases.specs.Words.{Facts, Reading}
use Rattle.cases.specs.Cases.{refused}
use Rattle.cases.proofs.refuse.Goals as goal

abbrev refusing : ℕ → Facts → Reading
refusing n f = record { refusal = n; facts = f }

pub returns : goal.returns
unfolding refused
returns c = ap (refusing _) c.no_facts.ensures
