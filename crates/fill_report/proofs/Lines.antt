-- What is said of a case by the number that filling it gave, and the sheet's text by the test that leads there.
use Prim.Native.Nat.{ℕ, ◌+◌, ◌-◌, ◌≤◌}
use mathlib.Core.Path.{◌≡◌, refl, sym, ◌∙◌}
use mathlib.Core.List.{List}
use native.Mathlib.Omega.{arith}
use lib.ListN.{length, take, length-append}
use lib.Seq.{length-take-le}
use borrow.Author.Tests.{eq-eqb, ne_eqb}
use borrow.Rule.Slice.PartMut.{mid_of, put_mid}
use Rattle.wire.specs.Laid.{laid, row}
use Rattle.wire.proofs.Laid.{laid_part}
use Rattle.wire.proofs.Rows.{Ran}
use Rattle.sheet.specs.Sheet.{cases_in}
use Rattle.fillings.specs.Fillings.{fill_sheet_refusal_of, filled_one, filled_in, read_in}
use Rattle.fill_report.specs.Told.{left_line, told_of, told, count_line, cases_text, whole_line, fill_text}

-- ---- a case, by its number: what is said, whether it counts, and what was written for it
abbrev pub Tells : ℕ → ℕ → List ℕ → List ℕ → ℕ → ℕ → Type 0
Tells k n l m bytes one = (bytes ≡ length (told_of k n)) × (one ≡ filled_one n) × (m ≡ laid (told_of k n) l)

pub tells_nothing : (k n number : ℕ) (l : List ℕ) → number ≡ n → number ≡ 0 → Tells k n l l 0 1
unfolding told_of filled_one laid
tells_nothing k n number l e h = rw (← e, h) (refl, refl, refl)

pub tells_left : (k n number bytes : ℕ) (l m : List ℕ) → number ≡ n → (number ≡ 0 → ⊥)
    → bytes ≡ length (left_line k number) → m ≡ laid (left_line k number) l → Tells k n l m bytes 0
unfolding told_of filled_one
tells_left k n number bytes l m e h long wrote = rw (← e) (simp (ne_eqb number 0 h) (long, refl, wrote))

-- ---- what is said of the cases, then the counts in the part after it
pub whole_text : (q s l m z : List ℕ) (n bytes filled read last : ℕ)
    → (bytes ≡ length (row (told q s) n)) × (filled ≡ filled_in q s n) × (m ≡ laid (row (told q s) n) l) → read ≡ read_in q s n
    → last ≡ length (count_line filled (n - filled) read)
    → z ≡ laid (count_line filled (n - filled) read) (mid_of bytes (length m - bytes) m)
    → Ran (cases_text q s n) l (bytes + last) (put_mid bytes (length m - bytes) m z)
whole_text q s l m z n bytes filled read last c sum long wrote =
    let w = row (told q s) n in
    let v = count_line filled (n - filled) read in
    rw (← c.1, ← sum) (omega (arith, length-append w v, c.0), laid_part w v l m z bytes c.2 c.0 wrote)

-- ---- the text, by the number of the whole
module _ (q s : List ℕ) (n : ℕ) (e : n ≡ fill_sheet_refusal_of q s) where
  pub text_filled : n ≡ 0 → fill_text q s ≡ cases_text q s (cases_in s)
  unfolding fill_text
  text_filled h = simp (eq-eqb (fill_sheet_refusal_of q s) 0 (sym e ∙ h))

  pub text_refused : (n ≡ 0 → ⊥) → fill_text q s ≡ whole_line n
  unfolding fill_text
  text_refused h = simp (← e, ne_eqb n 0 h)

-- what is said, and what whoever writes the first k bytes out must know of them
pub said : (t w l m : List ℕ) (k : ℕ) → t ≡ w → k ≡ length w → m ≡ laid w l → length w ≤ length m
    → ((k ≡ length t) × (m ≡ laid t l)) × ((k ≤ length m) × (k ≡ length (take k m)))
said t w l m k e long wrote h =
    let n : k ≤ length m = omega arith in
    rw e ((long, wrote), (n, sym (length-take-le k m n)))
