-- An exchange has a line exactly where what it says on this half is at the price.
use Prim.Native.Nat.{ℕ, ◌<◌}
use mathlib.Core.Path.{◌≡◌, refl}
use mathlib.Core.Bool.{Bool, true, false}
use mathlib.Core.List.{List, []}
use lib.ListN.{length}
use lib.Dec.{ltb}
use borrow.Author.Tests.{lt-ltb}
use Rattle.wire.specs.Tests.{pick}
use Rattle.halves.specs.Halves.{half_of, same}
use Rattle.best.specs.Best.{said_by}
use Rattle.best_lines.specs.Words.{Price, Some, None, Half, Last}
use Rattle.best_lines.specs.BestLines.{quote_line, sayer_line}
use Rattle.best_lines.proofs.Lengths.{quote_long}

-- none is at no price
no_price : (p : Price) → same p None ≡ false
no_price (Some a) = refl
no_price None = refl

line_or_none : (b : Bool) (w : List ℕ) → 0 < length w → ltb 0 (length (pick b w [])) ≡ b
line_or_none true w h = lt-ltb 0 (length w) h
line_or_none false w h = refl

pub shown : (h : Half) (p : Price) (l : Last) → ltb 0 (length (sayer_line h p l)) ≡ same p (said_by h l).price
unfolding sayer_line
shown h p None = rw (no_price p)
shown h p (Some q) = line_or_none (same p (half_of h q).price) (quote_line h q) (quote_long h q).0
