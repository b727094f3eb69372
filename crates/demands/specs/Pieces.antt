-- The report piece by piece (RULE R11): the pieces of any bytes, one after the other, are their report, and each fits a buffer of 96 bytes.
use Rattle.std.specs.Prelude.{ℕ, ◌≤◌, ◌<◌, ◌≡◌, List, [], length, take}
use Rattle.std.proofs.Common.{sym, ◌∙◌, arith}
use contract.Lifetimes.{Lfts}
use Rattle.std.specs.Borrow.{Bor, MutBor}
use Rattle.wire.specs.Laid.{laid, row}
use Rattle.wire.proofs.Rows.{row_same}
use Rattle.report.specs.Report.{text_of}
use Rattle.report.specs.Pieces.{piece_of, pieces_in, most_pieces}
use Rattle.report.proofs as report
use Rattle.demands.specs.Why as why

-- No caller tests anything first: the buffer has 96 bytes by its type.
pub nothing_asked : (κs : Lfts 2) (s : Bor (List ℕ)) (b : MutBor (List ℕ)) (k : ℕ) → report.print_piece.Reads.Asked κs (s, (k, (b, tt)))
nothing_asked κs s b k = tt

-- All pieces, one after the other, are the report: the header, at most 600 lines and END are 602.
pub all_pieces : (s : List ℕ) → row (piece_of s) most_pieces ≡ text_of s
all_pieces = report.Pieces.all_pieces

pub pieces_most : (s : List ℕ) → pieces_in s ≤ most_pieces
pieces_most = report.Pieces.pieces_most

-- A piece is empty exactly from the number of pieces on.
pub piece_empty : (s : List ℕ) (k : ℕ) → (k < pieces_in s → 1 ≤ length (piece_of s k)) × (pieces_in s ≤ k → piece_of s k ≡ [])
piece_empty s k = (report.Pieces.piece_some s k, report.Pieces.piece_past s k)

-- So whoever writes pieces until an empty one comes has written the report.
pub until_empty : (s : List ℕ) (k : ℕ) → length (piece_of s k) ≡ 0 → row (piece_of s) k ≡ text_of s
until_empty = report.Pieces.until_empty

-- No piece is longer than 96 bytes.
pub piece_fits : (s : List ℕ) (k : ℕ) → length (piece_of s k) ≤ 96
piece_fits = report.Pieces.piece_most

-- So every call of `print_piece`.
pub print_piece_says : (κs : Lfts 2) (s s' : Bor (List ℕ)) (out out' : MutBor (List ℕ)) (k k' r : ℕ) → report.print_piece.Reads.Post κs (s, (k, (out, tt))) r (s', (k', (out', tt)))
    → (r ≡ length (piece_of s.now k)) × (r ≤ 96) × (out'.now ≡ laid (piece_of s.now k) out.now)
print_piece_says κs s s' out out' k k' r p = (p.0.0, rw p.0.0 (piece_fits s.now k), p.0.1)

-- And every run of calls on one sheet, for piece 0 to piece n, whatever the buffers hold before: where the last answers 0, what the calls before
-- it wrote, as many bytes as each answered, is the report.
pub calls_until_empty : (sheet : List ℕ) (n : ℕ) (κs : ℕ → Lfts 2) (s s' : ℕ → Bor (List ℕ)) (out out' : ℕ → MutBor (List ℕ)) (k' r : ℕ → ℕ)
    → ((k : ℕ) → k ≤ n → ((s k).now ≡ sheet) × report.print_piece.Reads.Post (κs k) (s k, (k, (out k, tt))) (r k) (s' k, (k' k, (out' k, tt))))
    → r n ≡ 0 → row (λ k. take (r k) (out' k).now) n ≡ text_of sheet
calls_until_empty sheet n κs s s' out out' k' r calls e =
    let said : (k : ℕ) → k ≤ n → (r k ≡ length (piece_of sheet k)) × ((out' k).now ≡ laid (piece_of sheet k) (out k).now) = λ k l. rw (calls k l).0 at (calls k l).1.0 in
    row_same (λ k. take (r k) (out' k).now) (piece_of sheet) n (λ k l. why.laid_taken (r k) (piece_of sheet k) (out k).now (out' k).now (said k (omega arith)))
    ∙ until_empty sheet n (sym (said n (omega arith)).0 ∙ e)
