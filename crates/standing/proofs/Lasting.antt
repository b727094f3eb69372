-- The line at place k is that of exchange k + 1, and it is there exactly where that exchange's last quote is at the best price.
use Prim.Native.Nat.{ℕ, ◌+◌}
use mathlib.Core.Path.{◌≡◌, refl}
use mathlib.Core.Bool.{Bool, true, false}
use mathlib.Core.List.{List, [], ◌∷◌}
use native.Mathlib.Omega.{arith}
use lib.ListN.{length}
use lib.Dec.{ltb, eqb}
use borrow.Author.Tests.{eqb-true}
use Rattle.wire.specs.Tests.{pick}
use Rattle.halves.specs.Halves.{same}
use Rattle.best.specs.Lasts.{or_else, last_of}
use Rattle.best.specs.Best.{said_by}
use Rattle.best_lines.proofs.Shown.{shown}
use Rattle.best.specs.Found.{best_in}
use Rattle.standing.specs.Words.{Posted, Half, Last, None, Some}
use Rattle.standing.specs.Standing.{sayer_of}

pub shown_at_best : (h : Half) (qs : List Posted) (k : ℕ)
    → ltb 0 (length (sayer_of h (best_in h qs).price qs k)) ≡ same (best_in h qs).price (said_by h (last_of (k + 1) qs)).price
shown_at_best h qs k = shown h (best_in h qs).price (last_of (k + 1) qs)

-- the last quote of an exchange is of that exchange
own_next : (e : ℕ) (x q : Posted) (l : Last) (b : Bool) → eqb x.exchange e ≡ b → ((r : Posted) → l ≡ Some r → r.exchange ≡ e)
    → or_else l (pick b (Some x) None) ≡ Some q → q.exchange ≡ e
own_next e x q (Some r) b t own h = own q h
own_next e x q None true t own h = let i : q ≡ x = cc in rw i (eqb-true x.exchange e t)
own_next e x q None false t own h = let z : ◌≡◌ {A = ℕ} 0 1 = cc in let n : ⊥ = omega arith in absurd n

pub own_quote : (e : ℕ) (qs : List Posted) (q : Posted) → last_of e qs ≡ Some q → q.exchange ≡ e
unfolding last_of
own_quote e [] q h = let z : ◌≡◌ {A = ℕ} 0 1 = cc in let n : ⊥ = omega arith in absurd n
own_quote e (x ∷ qs) q h = own_next e x q (last_of e qs) (eqb x.exchange e) refl (λ r i. own_quote e qs r i) h
