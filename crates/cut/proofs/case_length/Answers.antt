use Prim.Native.Nat.{◌<◌, ◌≤◌}
use mathlib.Core.Path.{◌≡◌, sym, ◌∙◌}
use mathlib.Core.Bool.{true, false}
use native.Mathlib.Omega.{arith}
use lib.ListN.{length}
use Rattle.forms.specs.Heads.{known, size_in, kind_in}
use Rattle.cut.proofs.First.{none_short, none_unknown, none_cut, one_first}
use Rattle.cut.proofs.case_length.Goals as goal

pub returns-then-s-lt4 : goal.returns-then-s-lt4
returns-then-s-lt4 c = sym (none_short _ c.if-s-lt4.true)

pub returns-then-not-is_known : goal.returns-then-not-is_known
returns-then-not-is_known c = let s = c.args.s.now in let e = c.if-not-is_known.true in
    let k : known (size_in s) (kind_in s) ≡ false = cc in
    sym (none_unknown s k)

pub returns-then-s-n : goal.returns-then-s-n
returns-then-s-n c = let s = c.args.s.now in let l : length s < size_in s = omega arith in
    sym (none_cut s l)

pub returns : goal.returns
returns c = let s = c.args.s.now in let e = c.if-not-is_known.false in
    let k : known (size_in s) (kind_in s) ≡ true = cc in
    let l : size_in s ≤ length s = omega arith in
    let r : c.read_u16-size.result ≡ size_in s = cc in
    r ∙ sym (one_first s (omega arith) k l)
