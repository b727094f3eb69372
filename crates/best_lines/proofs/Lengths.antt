-- The line of a best is at most 41 bytes long, that of an exchange at most 49.
use Prim.Native.Nat.{ℕ, ◌≤◌}
use mathlib.Core.List.{List, []}
use native.Mathlib.Omega.{arith}
use lib.ListN.{length, length-append}
use Rattle.wire.proofs.Tests.{either}
use Rattle.text.proofs.Decimal.{decimal_length}
use Rattle.spelling.proofs.Times.{time_length}
use Rattle.spelling.proofs.Dollars.{dollars_length}
use Rattle.halves.specs.Halves.{half_of, same}
use Rattle.best_lines.specs.Words.{Price, Some, None, Quote, Posted, Half, Bid, Offer, Last}
use Rattle.best_lines.specs.BestLines.{size_text, head_name, amount_text, head_line, quote_line, sayer_line}

size_most : (n : ℕ) → length (size_text n) ≤ 16
unfolding size_text
size_most n = simp length-append (omega (arith, decimal_length n))

name_most : (h : Half) → length (head_name h) ≤ 11
unfolding head_name
name_most Bid = omega arith
name_most Offer = omega arith

amount_most : (p : Price) (n : ℕ) → length (amount_text p n) ≤ 16
unfolding amount_text
amount_most (Some p) n = size_most n
amount_most None n = omega arith

pub head_most : (h : Half) (best : Quote) → length (head_line h best) ≤ 41
unfolding head_line
head_most h best =
    simp length-append
    (omega (arith, name_most h, dollars_length best.price, amount_most best.price best.size.0))

pub quote_long : (h : Half) (q : Posted) → (1 ≤ length (quote_line h q)) × (length (quote_line h q) ≤ 49)
unfolding quote_line
quote_long h q =
    let e = decimal_length q.exchange in
    let t = time_length q.time.0 in
    let n = size_most (half_of h q).size.0 in
    simp length-append (omega arith, omega arith)

pub sayer_most : (h : Half) (p : Price) (l : Last) → length (sayer_line h p l) ≤ 49
unfolding sayer_line
sayer_most h p None = omega arith
sayer_most h p (Some q) =
    either (λ (w : List ℕ). length w ≤ 49) (same p (half_of h q).price) (quote_line h q) [] (λ _. (quote_long h q).1) (λ _. omega arith)
