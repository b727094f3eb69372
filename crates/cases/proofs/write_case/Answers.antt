use mathlib.Core.Path.{sym, ◌∙◌}
use Rattle.wire.proofs.Laid.{laid_none, ends}
use Rattle.cases.proofs.Held.{held}
use Rattle.cases.proofs.Laws.{writes_short, writes_refused, writes_facts}
use Rattle.cases.proofs.write_case.Goals as goal

pub returns-then-out-length_of : goal.returns-then-out-length_of
returns-then-out-length_of c = let short = rw c.length_of.ensures at c.if-out-length_of.true in
    let e = ends _ _ _ (writes_short _ _ short) (laid_none _) in
    (e.0, e.1, held _ _ c.well_formed.0)

pub returns-then-n-ne0 : goal.returns-then-n-ne0
returns-then-n-ne0 c = let room = rw c.length_of.ensures at c.if-out-length_of.false in
    let e = ends _ _ _ (writes_refused _ _ _ room c.fault-n.ensures c.if-n-ne0.true) (laid_none _) in
    (e.0, e.1, held _ _ c.well_formed.0)

pub returns : goal.returns
returns c = let room = rw c.length_of.ensures at c.if-out-length_of.false in
    let e = ends _ _ _ (writes_facts _ _ room (sym c.fault-n.ensures ∙ c.if-n-ne0.false)) c.put_facts.ensures in
    (e.0, e.1, held _ _ c.well_formed.0)
