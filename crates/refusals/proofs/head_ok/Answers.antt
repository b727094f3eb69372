use Prim.Native.Nat.{ℕ}
use mathlib.Core.Path.{ap, ap₂, ◌∙◌}
use mathlib.Core.Bool.{◌&&◌}
use lib.ListN.{length}
use lib.Dec.{eqb}
use Rattle.forms.specs.Heads.{known}
use Rattle.refusals.specs.Tests.{head_ok}
use Rattle.refusals.proofs.head_ok.Goals as goal

pub returns : goal.returns
unfolding head_ok
returns c = let n = length c.args.s.now in
    ap₂ ◌&&◌ (c.is_known.ensures ∙ ap₂ known c.read_u16-size.ensures c.read_u16-kind.ensures) (ap (λ (k : ℕ). eqb k n) c.read_u16-size.ensures)
