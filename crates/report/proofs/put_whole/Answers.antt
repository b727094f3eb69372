use native.Mathlib.Omega.{arith}
use Rattle.report.proofs.Lines.{end_long, whole_text}
use Rattle.report.proofs.put_whole.Goals as goal

pub overflow_add-result : goal.overflow_add-result
overflow_add-result c = omega (arith, end_long _ _ _ c.put_end.ensures.0)

pub returns : goal.returns
returns c = let t = whole_text _ _ _ _ _ _ _ _ c.put_lines-p.ensures.bytes_value c.put_end.ensures in
    (t.0, t.1, omega (arith, end_long _ _ _ c.put_end.ensures.0))
