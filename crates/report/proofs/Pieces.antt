-- The pieces of a sheet's text: which piece is which, that they are the text, how many there are, and that each has at most 96 bytes.
use Prim.Native.Nat.{ℕ, zero, suc, ◌+◌, ◌-◌, ◌≤◌, ◌<◌, zero-le}
use mathlib.Core.Path.{◌≡◌, refl, sym, ap, ◌∙◌}
use mathlib.Core.Bool.{Bool, true, false}
use mathlib.Core.List.{List, [], ◌++◌, append_assoc, append-nil}
use native.Mathlib.Omega.{arith}
use lib.ListN.{length, take, drop, length-append}
use lib.Dec.{ltb, eqb}
use borrow.Author.Tests.{lt-ltb, le-ltb, eq-eqb, ne_eqb, ltb-true, ltb-false, eqb-false}
use Rattle.wire.specs.Laid.{row}
use Rattle.wire.proofs.Tests.{either}
use Rattle.wire.proofs.Rows.{row_same, row_split}
use Rattle.cases.specs.Cases.{reading_of}
use Rattle.cut.specs.Cut.{case_length}
use Rattle.cut.proofs.Walk.{At, at_of, at_lent}
use Rattle.sheet.specs.Sheet.{case_at, cases_in, start_of, ruled_in, whole_cases}
use Rattle.sheet.proofs.Turns.{whole_few}
use Rattle.lines.specs.Lines.{header, ruled_line, refused_line, end_line, sheet_line}
use Rattle.lines.proofs.Lengths.{header_most, end_most, sheet_most}
use Rattle.report.specs.Words.{Reading}
use Rattle.report.specs.Report.{case_line, line_of, ruled_text, text_of}
use Rattle.report.specs.Pieces.{ruled_piece, refused_piece, piece_of, pieces_in, most_pieces}
use Rattle.report.proofs.Lines.{text_whole, text_refused, line_most}

-- ---- which piece is which
module _ (s : List ℕ) (n : ℕ) where
  line_piece : (k : ℕ) → k < n → ruled_piece s n (suc k) ≡ line_of s k
  line_piece k h = simp (lt-ltb k n h)

  end_piece : ruled_piece s n (suc n) ≡ end_line (ruled_in s n) (n - ruled_in s n)
  end_piece = simp (le-ltb n n (omega arith), eq-eqb n n refl)

  no_piece : (k : ℕ) → n < k → ruled_piece s n (suc k) ≡ []
  no_piece k h = simp (le-ltb k n (omega arith), ne_eqb k n (omega arith))

-- the same for a piece after the header: the part of the sheet that is lent, from the place of case i on, is case i
pub at_place : (s : List ℕ) (n i from : ℕ) → n ≡ cases_in s → i < n → from ≡ start_of s i → At s i from
at_place s n i from many l place = rw place (at_of s i (omega arith))

pub at_line : (s : List ℕ) (n k i from step : ℕ) → k ≡ suc i → n ≡ cases_in s → i < n → from ≡ start_of s i → step ≡ case_length (drop from s)
    → case_line i (reading_of (take (from + step - from) (drop from s))) ≡ ruled_piece s n k
at_line s n k i from step e many l place long =
    ap (λ (c : List ℕ). case_line i (reading_of c)) (at_lent s i from step (at_place s n i from many l place) (omega arith) long) ∙ rw e (sym (line_piece s n i l))

pub at_end : (s : List ℕ) (n k i ruled : ℕ) → k ≡ suc i → i ≡ n → ruled ≡ ruled_in s n → end_line ruled (n - ruled) ≡ ruled_piece s n k
at_end s n k i ruled e l r = rw (e, l, r) (sym (end_piece s n))

pub at_none : (s : List ℕ) (n k i : ℕ) → k ≡ suc i → n ≤ i → (i ≡ n → ⊥) → [] ≡ ruled_piece s n k
at_none s n k i e l h = rw e (sym (no_piece s n i (omega arith)))

-- ---- all pieces, one after the other
row_none : (f : ℕ → List ℕ) (n : ℕ) → ((k : ℕ) → f k ≡ []) → row f n ≡ []
unfolding row
row_none f zero h = refl
row_none f (suc n) h = rw (row_none f n h, h n)

row_first : (f : ℕ → List ℕ) (n : ℕ) → row f (suc n) ≡ f 0 ++ row (λ k. f (suc k)) n
unfolding row
row_first f zero = sym (append-nil (f 0))
row_first f (suc n) = rw (row_first f n, append_assoc)

ruled_all : (s : List ℕ) (n m : ℕ) → row (ruled_piece s n) (suc (suc n + m)) ≡ ruled_text s n
ruled_all s n m =
    let lines = row_same (λ k. ruled_piece s n (suc k)) (line_of s) n (line_piece s n) in
    let after = row_none (λ k. ruled_piece s n (suc (suc n + k))) m (λ k. no_piece s n (suc n + k) (omega arith)) in
    row_first (ruled_piece s n) (suc n + m)
    ∙ rw (row_split (λ k. ruled_piece s n (suc k)) n m, lines, end_piece s n, after, append-nil, append_assoc)

refused_all : (m : ℕ) → row refused_piece (suc m) ≡ sheet_line 10
refused_all m = row_first refused_piece m ∙ rw (row_none (λ k. refused_piece (suc k)) m (λ k. refl), append-nil)

-- ---- by the test of the whole sheet
module _ (s : List ℕ) (h : whole_cases s ≡ true) where
  pub piece_whole : (k : ℕ) → piece_of s k ≡ ruled_piece s (cases_in s) k
  unfolding piece_of
  piece_whole k = simp h

  pieces_whole : pieces_in s ≡ cases_in s + 2
  unfolding pieces_in
  pieces_whole = simp h

module _ (s : List ℕ) (h : whole_cases s ≡ false) where
  pub piece_refused : (k : ℕ) → piece_of s k ≡ refused_piece k
  unfolding piece_of
  piece_refused k = simp h

  pieces_refused : pieces_in s ≡ 1
  unfolding pieces_in
  pieces_refused = simp h

-- ---- how long each is, and which are empty
case_some : (k : ℕ) (r : Reading) → 1 ≤ length (case_line k r)
unfolding case_line ruled_line refused_line
case_some k r = either (λ (w : List ℕ). 1 ≤ length w) (eqb r.refusal 0) _ _ (λ _. simp length-append (omega arith)) (λ _. omega arith)

module _ (s : List ℕ) (n : ℕ) where
  pub ruled_piece_most : (k : ℕ) → length (ruled_piece s n k) ≤ 96
  ruled_piece_most zero = header_most
  ruled_piece_most (suc k) =
      let short : List ℕ → Type 0 = λ w. length w ≤ 96 in
      either short (ltb k n) _ _ (λ _. line_most k (reading_of (case_at s k)))
      (λ _. either short (eqb k n) _ _ (λ _. end_most (ruled_in s n) (n - ruled_in s n)) (λ _. zero-le))

  ruled_piece_some : (k : ℕ) → k < n + 2 → 1 ≤ length (ruled_piece s n k)
  unfolding header end_line
  ruled_piece_some zero l = omega arith
  ruled_piece_some (suc k) l =
      let some : List ℕ → Type 0 = λ w. 1 ≤ length w in
      either some (ltb k n) _ _ (λ _. case_some k (reading_of (case_at s k)))
      (λ t. either some (eqb k n) _ _ (λ _. omega arith)
      (λ u. let z : ⊥ = omega (arith, ltb-false k n t, eqb-false k n u) in absurd z))

  ruled_piece_past : (k : ℕ) → n + 2 ≤ k → ruled_piece s n k ≡ []
  ruled_piece_past zero l = let z : ⊥ = omega arith in absurd z
  ruled_piece_past (suc k) l = no_piece s n k (omega arith)

refused_piece_most : (k : ℕ) → length (refused_piece k) ≤ 96
refused_piece_most zero = sheet_most 10
refused_piece_most (suc k) = zero-le

refused_piece_some : (k : ℕ) → k < 1 → 1 ≤ length (refused_piece k)
unfolding sheet_line
refused_piece_some zero l = omega arith
refused_piece_some (suc k) l = let z : ⊥ = omega arith in absurd z

pub refused_piece_past : (k : ℕ) → 1 ≤ k → refused_piece k ≡ []
refused_piece_past zero l = let z : ⊥ = omega arith in absurd z
refused_piece_past (suc k) l = refl

-- ---- of every byte string: what holds of a sheet of whole cases, and of one refused whole, holds of it
by_whole : (s : List ℕ) (P : Type 0) → (whole_cases s ≡ true → P) → (whole_cases s ≡ false → P) → P
by_whole s P p q = by_test (whole_cases s) refl where
  by_test : (b : Bool) → whole_cases s ≡ b → P
  by_test true e = p e
  by_test false e = q e

module _ (s : List ℕ) where
  pub pieces_most : pieces_in s ≤ most_pieces
  pieces_most =
      by_whole s (pieces_in s ≤ most_pieces)
      (λ h. omega (arith, pieces_whole s h, whole_few s h))
      (λ h. omega (arith, pieces_refused s h))

  -- no piece is longer than 96 bytes
  pub piece_most : (k : ℕ) → length (piece_of s k) ≤ 96
  unfolding piece_of
  piece_most k =
      either (λ (w : List ℕ). length w ≤ 96) (whole_cases s) _ _ (λ _. ruled_piece_most s (cases_in s) k) (λ _. refused_piece_most k)

  -- a piece is empty exactly from the number of pieces on
  pub piece_some : (k : ℕ) → k < pieces_in s → 1 ≤ length (piece_of s k)
  piece_some k l =
      by_whole s (1 ≤ length (piece_of s k))
      (λ h. rw (piece_whole s h k) (ruled_piece_some s (cases_in s) k (omega (arith, pieces_whole s h))))
      (λ h. rw (piece_refused s h k) (refused_piece_some k (omega (arith, pieces_refused s h))))

  pub piece_past : (k : ℕ) → pieces_in s ≤ k → piece_of s k ≡ []
  piece_past k l =
      by_whole s (piece_of s k ≡ [])
      (λ h. piece_whole s h k ∙ ruled_piece_past s (cases_in s) k (omega (arith, pieces_whole s h)))
      (λ h. piece_refused s h k ∙ refused_piece_past k (omega (arith, pieces_refused s h)))

  -- a piece that is not empty is one of those that there are at most: whoever goes on to the next one comes to an end
  pub piece_within : (k r : ℕ) → r ≡ length (piece_of s k) → (r ≡ 0 → ⊥) → k < most_pieces
  piece_within k r e some = by_test (ltb k most_pieces) refl where
    by_test : (b : Bool) → ltb k most_pieces ≡ b → k < most_pieces
    by_test true t = ltb-true k most_pieces t
    by_test false t = absurd (some (e ∙ ap length (piece_past k (omega (arith, pieces_most, ltb-false k most_pieces t)))))

  -- as many pieces as there are, or more, are the text
  pub enough_pieces : (k : ℕ) → pieces_in s ≤ k → row (piece_of s) k ≡ text_of s
  enough_pieces k l =
      by_whole s (row (piece_of s) k ≡ text_of s)
      (λ h.
      let n = cases_in s in
      let e : k ≡ suc (suc n + (k - (n + 2))) = omega (arith, pieces_whole s h) in
      row_same (piece_of s) (ruled_piece s n) k (λ j _. piece_whole s h j) ∙ ap (row (ruled_piece s n)) e ∙ ruled_all s n (k - (n + 2)) ∙ sym (text_whole s h))
      (λ h.
      let e : k ≡ suc (k - 1) = omega (arith, pieces_refused s h) in
      row_same (piece_of s) refused_piece k (λ j _. piece_refused s h j) ∙ ap (row refused_piece) e ∙ refused_all (k - 1) ∙ sym (text_refused s h))

  pub all_pieces : row (piece_of s) most_pieces ≡ text_of s
  all_pieces = enough_pieces most_pieces pieces_most

  -- whoever writes pieces until an empty one comes has written the text
  pub until_empty : (k : ℕ) → length (piece_of s k) ≡ 0 → row (piece_of s) k ≡ text_of s
  until_empty k e = by_test (ltb k (pieces_in s)) refl where
    by_test : (b : Bool) → ltb k (pieces_in s) ≡ b → row (piece_of s) k ≡ text_of s
    by_test true t = let z : ⊥ = omega (arith, piece_some k (ltb-true k (pieces_in s) t)) in absurd z
    by_test false t = enough_pieces k (ltb-false k (pieces_in s) t)
