use Prim.Native.Nat.{◌≤◌}
use mathlib.Core.Path.{refl}
use native.Mathlib.Omega.{arith}
use lib.ListN.{length}
use native.Mathlib.Omega.{arith}
use mathlib.Core.Path.{ap}
use Rattle.careful.specs.Careful.{cautions_of}
use Rattle.careful_lines.specs.Lines.{careful_rows}
use Rattle.explanation.specs.Explained.{told_rows, explained_rows, explained_of}
use Rattle.words.proofs.Runs.{no_rows, rows_more}
use Rattle.explanation.proofs.add_case.Goals as goal

pub returns : goal.returns
unfolding explained_of explained_rows
returns c = let a = c.args in let room : a.at ≤ length a.out.now = omega (arith, c.requires) in
    let r0 = no_rows a.at a.out.now room in
    let r1 = rows_more a.at _ _ _ _ _ (told_rows a.case.now) _ _ _ room r0 refl c.add_told-next.ensures in
    let r2 = rows_more a.at _ _ _ _ _ (careful_rows (cautions_of a.case.now)) _ _ _ room r1 (ap careful_rows c.find_cautions-cautions.ensures) c.add_cautions.ensures in
    (r2.0, r2.1, omega (arith, c.add_told-next.ensures.2, c.add_cautions.ensures.2))
