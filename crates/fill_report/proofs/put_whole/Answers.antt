use native.Mathlib.Omega.{arith}
use Rattle.fill_report.proofs.Lines.{whole_text}
use Rattle.fill_report.proofs.put_whole.Goals as goal

pub returns : goal.returns
returns c = let w = c.put_counts.ensures in let t = whole_text _ _ _ _ _ _ _ _ _ _ c.put_cases-p.ensures.bytes_value c.put_cases-p.ensures.read_value w.0 w.1 in
    (t.0, t.1, omega arith)
