-- A sum over places does not go by their order.
use Prim.Native.Nat.{ℕ, zero, suc, ◌+◌, ◌<◌}
use mathlib.Core.Path.{◌≡◌, refl, sym, ap, ◌∙◌}
use mathlib.Core.Bool.{Bool, true, false}
use native.Mathlib.Omega.{arith}
use lib.Dec.{eqb, ltb}
use borrow.Author.Tests.{eqb-true, eqb-false, eq-eqb, ne_eqb, ltb-true, ltb-false}
use Rattle.wire.specs.Tests.{pick}

-- f 0 and so on, n of them
unfoldable pub sum : (ℕ → ℕ) → ℕ → ℕ
sum f zero = 0
sum f (suc n) = sum f n + f n

pub sum_same : (f g : ℕ → ℕ) (n : ℕ) → ((k : ℕ) → k < n → f k ≡ g k) → sum f n ≡ sum g n
unfolding sum
sum_same f g zero h = refl
sum_same f g (suc n) h = omega (arith, sum_same f g n (λ k l. h k (omega arith)), h n (omega arith))

-- where g is f but for place v
module _ (f g : ℕ → ℕ) (v : ℕ) where
  abbrev Same : ℕ → Type 0
  Same n = (k : ℕ) → k < n → (k ≡ v → ⊥) → g k ≡ f k

  abbrev Changed : ℕ → Type 0
  Changed n = sum g n + f v ≡ sum f n + g v

  changed_next : (n : ℕ) → Same (suc n) → v < suc n → (v < n → Changed n) → Changed (suc n)
  unfolding sum
  changed_next n same h before = by_test (eqb v n) refl where
    by_test : (b : Bool) → eqb v n ≡ b → sum g n + g n + f v ≡ sum f n + f n + g v
    by_test true e =
        let is = eqb-true v n e in
        let others = sum_same g f n (λ k l. same k (omega arith) (λ d. omega arith)) in
        let last : f v ≡ f n = ap f is in
        let last' : g v ≡ g n = ap g is in
        omega (arith, others, last, last')
    by_test false e =
        let not = eqb-false v n e in
        omega (arith, before (omega arith), same n (omega arith) (λ d. not (sym d)))

  sum_changed : (n : ℕ) → v < n → Same n → Changed n
  sum_changed zero h same = omega arith
  sum_changed (suc n) h same = changed_next n same h (λ l. sum_changed n l (λ k i d. same k (omega arith) d))

-- ---- two places exchanged
abbrev exchanged : ℕ → ℕ → ℕ → ℕ
exchanged v m k = pick (eqb k m) v (pick (eqb k v) m k)

module _ (v m : ℕ) where
  at_last : (k : ℕ) → k ≡ m → exchanged v m k ≡ v
  at_last k e = simp (eq-eqb k m e)

  at_first : (k : ℕ) → (k ≡ m → ⊥) → k ≡ v → exchanged v m k ≡ m
  at_first k d e = simp (ne_eqb k m d, eq-eqb k v e)

  elsewhere : (k : ℕ) → (k ≡ m → ⊥) → (k ≡ v → ⊥) → exchanged v m k ≡ k
  elsewhere k d e = simp (ne_eqb k m d, ne_eqb k v e)

  -- a place is the last, or the other one, or neither
  by_place : (P : ℕ → Type 0) (k : ℕ) → (k ≡ m → P k) → ((k ≡ m → ⊥) → k ≡ v → P k) → ((k ≡ m → ⊥) → (k ≡ v → ⊥) → P k) → P k
  by_place P k last first other = by_last (eqb k m) refl where
    by_first : (k ≡ m → ⊥) → (b : Bool) → eqb k v ≡ b → P k
    by_first d true e = first d (eqb-true k v e)
    by_first d false e = other d (eqb-false k v e)

    by_last : (b : Bool) → eqb k m ≡ b → P k
    by_last true e = last (eqb-true k m e)
    by_last false e = by_first (eqb-false k m e) (eqb k v) refl

  -- exchanged twice, each place is where it was
  twice : (k : ℕ) → exchanged v m (exchanged v m k) ≡ k
  twice k =
      by_place (λ (k : ℕ). exchanged v m (exchanged v m k) ≡ k) k
      (λ e. ap (exchanged v m) (at_last k e) ∙ first_back k e (eqb v m) refl)
      (λ d e. ap (exchanged v m) (at_first k d e) ∙ at_last m refl ∙ sym e)
      (λ d e. ap (exchanged v m) (elsewhere k d e) ∙ elsewhere k d e) where
        first_back : (k : ℕ) → k ≡ m → (b : Bool) → eqb v m ≡ b → exchanged v m v ≡ k
        first_back k e true h = at_last v (eqb-true v m h) ∙ eqb-true v m h ∙ sym e
        first_back k e false h = at_first v (eqb-false v m h) refl ∙ sym e

  module _ (f : ℕ → ℕ) where
    abbrev g : ℕ → ℕ
    g k = f (exchanged v m k)

    sum_exchanged : v < suc m → sum g (suc m) ≡ sum f (suc m)
    unfolding sum
    sum_exchanged h = by_test (eqb v m) refl where
      last_is : g m ≡ f v
      last_is = ap f (at_last m refl)

      by_test : (b : Bool) → eqb v m ≡ b → sum g m + g m ≡ sum f m + f m
      by_test true e =
          let is = eqb-true v m e in
          let others = sum_same g f m (λ k l. ap f (elsewhere k (λ d. omega arith) (λ d. omega arith))) in
          let last : g m ≡ f m = last_is ∙ ap f is in
          omega (arith, others, last)
      by_test false e =
          let not = eqb-false v m e in
          let changed = sum_changed f g v m (omega arith) (λ k l d. ap f (elsewhere k (λ z. omega arith) d)) in
          let first : g v ≡ f m = ap f (at_first v not refl) in
          omega (arith, changed, first, last_is)

-- Where σ keeps below n and no two places share a value, the sum in the order of σ is the sum.
module _ (m : ℕ) (σ : ℕ → ℕ) (within : (k : ℕ) → k < suc m → σ k < suc m) (apart : (k l : ℕ) → k < suc m → l < suc m → σ k ≡ σ l → k ≡ l) where
  abbrev back : ℕ → ℕ
  back k = exchanged (σ m) m k

  -- σ with its last value exchanged for the last place: it keeps the last place, and so the others below it
  abbrev τ : ℕ → ℕ
  τ k = back (σ k)

  other : (k : ℕ) → k < m → σ k ≡ σ m → ⊥
  other k l e = let same = apart k m (omega arith) (omega arith) e in omega arith

  below : (k : ℕ) → k < m → τ k < m
  below k l =
      let last = within m (omega arith) in
      by_place (σ m) m (λ (x : ℕ). x < suc m → (x ≡ σ m → ⊥) → back x < m) (σ k)
      (λ e h d. rw (at_last (σ m) m (σ k) e) (let z : σ m ≡ m → ⊥ = λ y. d (e ∙ sym y) in lower (σ m) last z))
      (λ d e h z. absurd (z e))
      (λ d e h z. rw (elsewhere (σ m) m (σ k) d e) (lower (σ k) h d))
      (within k (omega arith)) (other k l) where
        lower : (x : ℕ) → x < suc m → (x ≡ m → ⊥) → x < m
        lower x h d = by_test (ltb x m) refl where
          by_test : (b : Bool) → ltb x m ≡ b → x < m
          by_test true e = ltb-true x m e
          by_test false e = absurd (d (omega (arith, ltb-false x m e)))

  distinct : (k l : ℕ) → k < m → l < m → τ k ≡ τ l → k ≡ l
  distinct k l h h' e = apart k l (omega arith) (omega arith) (sym (twice (σ m) m (σ k)) ∙ ap back e ∙ twice (σ m) m (σ l))

pub sum_order : (n : ℕ) (f σ : ℕ → ℕ) → ((k : ℕ) → k < n → σ k < n) → ((k l : ℕ) → k < n → l < n → σ k ≡ σ l → k ≡ l)
    → sum (λ k. f (σ k)) n ≡ sum f n
unfolding sum
sum_order zero f σ within apart = refl
sum_order (suc m) f σ within apart =
    let ex : ℕ → ℕ = λ k. exchanged (σ m) m k in
    ap (λ (x : ℕ). x + f (σ m)) (sum_same (λ k. f (σ k)) (λ k. f (ex (ex (σ k)))) m (λ k l. ap f (sym (twice (σ m) m (σ k)))))
    ∙ ap (λ (x : ℕ). x + f (σ m)) (sum_order m (λ k. f (ex k)) (λ k. ex (σ k)) (below m σ within apart) (distinct m σ within apart))
    ∙ ap (λ (x : ℕ). sum (λ k. f (ex k)) m + x) (ap f (sym (at_last (σ m) m m refl)))
    ∙ sum_exchanged (σ m) m f (within m (omega arith))
