use mathlib.Core.Path.{sym}
use Rattle.sheet.proofs.Entries.{told_ruled, told_refused, one_ruled, one_refused}
use Rattle.report.proofs.ruled_one.Goals as goal

pub returns-then-check_known-eq0 : goal.returns-then-check_known-eq0
returns-then-check_known-eq0 c = sym (one_ruled _ (told_ruled _ _ c.check_known.ensures c.if-check_known-eq0.true))

pub returns-else-check_known-eq0 : goal.returns-else-check_known-eq0
returns-else-check_known-eq0 c = sym (one_refused _ (told_refused _ _ c.check_known.ensures c.if-check_known-eq0.false))
