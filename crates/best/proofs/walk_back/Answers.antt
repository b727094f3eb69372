use native.Mathlib.Omega.{arith}
use Rattle.best.proofs.Turns.{first, next, ended, stopped}
use Rattle.quotes.proofs.Accepted.{exchange_at}
use mathlib.Core.Path.{◌≡◌}
use mathlib.Core.Logic.{◌⊎◌, ⊎_elim}
use Prim.Native.Nat.{◌≤◌, ◌-◌}
use Rattle.best.proofs.walk_back.Goals as goal

pub loop-i-init : goal.loop-i-init
loop-i-init c = first _ _

-- the exchange of the quote that is read is 1 to 16
pub overflow_sub-q : goal.overflow_sub-q
overflow_sub-q c =
    let e : (1 ≤ c.posted_at-q.result.exchange) × (c.posted_at-q.result.exchange ≤ 16) =
    rw c.posted_at-q.ensures (exchange_at _ _ (c.loop-i.i - 1) c.requires.1 (omega arith)) in
    e.0

pub meet-w-requires : goal.meet-w-requires
meet-w-requires c =
    let e : (1 ≤ c.posted_at-q.result.exchange) × (c.posted_at-q.result.exchange ≤ 16) =
    rw c.posted_at-q.ensures (exchange_at _ _ (c.loop-i.i - 1) c.requires.1 (omega arith)) in
    (omega arith, omega arith)

pub loop-i-preserved : goal.loop-i-preserved
loop-i-preserved c =
    let e : (1 ≤ c.posted_at-q.result.exchange) × (c.posted_at-q.result.exchange ≤ 16) =
    rw c.posted_at-q.ensures (exchange_at _ _ (c.loop-i.i - 1) c.requires.1 (omega arith)) in
    next _ _ _ _ c.loop-i.i _ c.loop-i.invariant (omega arith) (λ z. omega arith) c.posted_at-q.ensures e.0 e.1 c.meet-w.ensures

pub returns : goal.returns
returns c =
    let end : (c.loop-i.i ≡ 0) ⊎ (16 ≤ c.loop-i.w.known) = grind arith in
    ⊎_elim
    (λ e. ended _ _ _ _ c.loop-i.invariant c.requires.0 e)
    (λ e. stopped _ _ _ _ c.loop-i.invariant c.requires.0 (omega (arith, c.loop-i.invariant.most))) end
