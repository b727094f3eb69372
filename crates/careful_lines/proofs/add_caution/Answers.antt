use Prim.Native.Nat.{◌≤◌}
use native.Mathlib.Omega.{arith}
use lib.ListN.{length}
use Rattle.words.proofs.Runs.{no_rows, row_alone}
use Rattle.careful_lines.proofs.add_caution.Goals as goal

pub returns-in-None : goal.returns-in-None
returns-in-None c = let a = c.args in let room : a.at ≤ length a.out.now = omega (arith, c.requires) in
    let r = no_rows a.at a.out.now room in
    rw c.in-None.is (r.0, r.1, omega arith)

pub returns-in-Some : goal.returns-in-Some
returns-in-Some c = let a = c.args in let r = row_alone a.at _ _ _ _ a.out.now _ c.warning_row.ensures c.add_row.ensures in
    rw c.in-Some.is (r.0, r.1, omega (arith, c.add_row.ensures.2))
