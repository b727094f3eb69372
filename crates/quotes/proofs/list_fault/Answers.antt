use Rattle.quotes.proofs.Records.{bad_record, good_record, all_records}
use native.Mathlib.Omega.{arith}
use mathlib.Core.Path.{sym, ◌∙◌}
use Prim.Native.Nat.{◌-◌}
use Rattle.quotes.proofs.list_fault.Goals as goal

pub returns-then-not-record_ok : goal.returns-then-not-record_ok
returns-then-not-record_ok c = bad_record _ c.loop-k.k c.loop-k.invariant.1 (omega arith) (sym c.record_ok.ensures ∙ c.if-not-record_ok.true)

pub loop-k-preserved : goal.loop-k-preserved
loop-k-preserved c = let next = good_record _ c.loop-k.k c.loop-k.invariant.1 c.loop-k.rising c.loop-k.earlier c.loop-k.invariant.2 (omega arith) (sym c.record_ok.ensures ∙ c.if-not-record_ok.false) _ c.read_u32-time.ensures in
    (omega arith, next.0, next.1)

pub returns : goal.returns
returns c = all_records _ c.loop-k.k c.loop-k.invariant.1 c.loop-k.rising c.loop-k.earlier c.loop-k.invariant.2 (omega arith) _ c.unless.ensures
