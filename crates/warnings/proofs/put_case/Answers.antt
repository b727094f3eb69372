use native.Mathlib.Omega.{arith}
use Prim.Native.Nat.{ℕ}
use mathlib.Core.Path.{refl, sym, ap, ap₂, ◌∙◌}
use Rattle.wire.proofs.Laid.{laid_none}
use Rattle.forms.proofs.Heads.{known_size}
use Rattle.lines.proofs.Joined.{as_line}
use Rattle.careful.specs.Careful.{any_caution}
use Rattle.careful.specs.declared.Cautions.{Cautions}
use Rattle.warnings.specs.Warned.{warned_text}
use Rattle.warnings.proofs.Warned.{warned_some, warned_none}
use Rattle.warnings.proofs.put_case.Goals as goal

pub read_u32-requires : goal.read_u32-requires
read_u32-requires c = let h = c.requires.0 in omega (arith, h.long, known_size _ _ h.pair)

pub returns-then-any_caution : goal.returns-then-any_caution
returns-then-any_caution c = let a = c.args in let s = a.case.now in
    let w = c.put_warned.ensures in let found = c.find_cautions-cautions.ensures in let some = ap any_caution (sym found) ∙ sym c.any_caution.ensures ∙ c.if-any_caution.true in
    let told = ap₂ (λ (t : ℕ) (c : Cautions). warned_text a.index t c) c.read_u32.ensures found ∙ sym (warned_some a.index s some) in
    let r = as_line _ _ _ _ _ told (w.0, w.1) in
    (r.0, r.1, w.2)

pub returns : goal.returns
returns c = let a = c.args in let s = a.case.now in
    let none = ap any_caution (sym c.find_cautions-cautions.ensures) ∙ sym c.any_caution.ensures ∙ c.if-any_caution.false in
    rw (warned_none a.index s none) (refl, laid_none _, omega arith)
