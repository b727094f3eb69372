use native.Mathlib.Omega.{arith}
use mathlib.Core.Path.{ap}
use Rattle.filling.specs.declared.Tried.{Tried}
use Rattle.filling.proofs.Answers.{read_most}
use Rattle.fill_report.proofs.Lines.{tells_nothing, tells_left}
use Rattle.fill_report.proofs.put_case.Goals as goal

pub returns-then-tried-eq0 : goal.returns-then-tried-eq0
returns-then-tried-eq0 c =
    let read = ap (λ (t : Tried). t.examined) c.check_fill-tried.ensures in
    record {
      bytes_value = tells_nothing _ _ _ _ (ap (λ (t : Tried). t.refusal) c.check_fill-tried.ensures) c.if-tried-eq0.true;
      read_value = read;
      bytes_bound = (omega arith, omega arith, rw read (read_most _ _));
    }

pub returns : goal.returns
returns c =
    let w = c.put_left.ensures in
    let read = ap (λ (t : Tried). t.examined) c.check_fill-tried.ensures in
    record {
      bytes_value = tells_left _ _ _ _ _ _ (ap (λ (t : Tried). t.refusal) c.check_fill-tried.ensures) c.if-tried-eq0.false w.0 w.1;
      read_value = read;
      bytes_bound = (w.2, omega arith, rw read (read_most _ _));
    }
