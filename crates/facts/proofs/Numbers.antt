-- A number that may be the mark "none", read and spelled again, is the number.
use Prim.Native.Nat.{ℕ}
use mathlib.Core.Path.{◌≡◌, refl, sym, ap, ◌∙◌}
use mathlib.Core.Bool.{Bool, true, false}
use lib.Dec.{eqb}
use borrow.Author.Tests.{eqb-true}
use Rattle.wire.specs.Tests.{pick}
use Rattle.facts.specs.Words.{None, Some}
use Rattle.facts.specs.Numbers.{mills, seconds, price_of, price_number, moment_of, moment_number}

-- a mark k for `none`, and `some n` at every other number
marked : {A : Type 0} (number : A → ℕ) (none : A) (some : ℕ → A) (k n : ℕ) → number none ≡ k → number (some n) ≡ n
    → number (pick (eqb n k) none (some n)) ≡ n
marked number none some k n e f = by_test (eqb n k) refl where
  by_test : (t : Bool) → eqb n k ≡ t → number (pick t none (some n)) ≡ n
  by_test true h = e ∙ sym (eqb-true n k h)
  by_test false h = f

pub price_number_lem : (n : ℕ) → price_number (price_of n) ≡ n
unfolding price_of
price_number_lem n = marked price_number None (λ k. Some (mills k)) 4294967295 n refl refl

pub moment_number_lem : (n : ℕ) → moment_number (moment_of n) ≡ n
unfolding moment_of
moment_number_lem n = marked moment_number None (λ k. Some (seconds k)) 4294967295 n refl refl

-- ---- an answer that is a case, with the number that the page gives it
pub spelled : {A : Type 0} {r a : A} {b : ℕ} (number : A → ℕ) → number a ≡ b → r ≡ a → (r ≡ a) × (number r ≡ b)
spelled number f e = (e, ap number e ∙ f)
