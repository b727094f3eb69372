use Prim.Native.Nat.{◌+◌, ◌-◌, ◌*◌, ◌≤◌}
use mathlib.Core.Path.{◌≡◌}
use lib.ListN.{length, take}
use Rattle.text.specs.Text.{laid_at}
use Rattle.words.specs.Pieces.{row_text}
use Rattle.words.proofs.add_row.Given as goal

abbrev pub invariant-loop-piece : goal.invariant-loop-piece
invariant-loop-piece l = (l.piece-index ≤ 10)
    × (l.next ≡ l.at + length (row_text (take l.piece-index l.fn.row)))
    × (l.out ≡ laid_at l.at (row_text (take l.piece-index l.fn.row)) l.initial.out)
    × (l.next ≤ l.at + l.piece-index * 104)
    × (length l.out ≡ length l.initial.out)
