-- The cases of a sheet in another order: each is a case still, there are as many bytes, and each has its place.
use Prim.Native.Nat.{ℕ, zero, suc, ◌<◌}
use mathlib.Core.Path.{◌≡◌, refl, sym, ap, ◌∙◌}
use mathlib.Core.List.{List, [], ◌∷◌, Permᴰ}
use native.Mathlib.Omega.{arith}
use lib.ListN.{length, get_or, length-append}
use Rattle.cut.specs.Cut.{together, AllCases}

pub perm_each : {cs ds : List (List ℕ)} → Permᴰ cs ds → AllCases cs → AllCases ds
perm_each Permᴰ.nil h = tt
perm_each (Permᴰ.cons e p) h = (rw (← e) h.0, perm_each p h.1)
perm_each (Permᴰ.swap e f) h = (rw (← f) h.1.0, (rw (← e) h.0, h.1.1))
perm_each (Permᴰ.trans p q) h = perm_each q (perm_each p h)

pub perm_long : {cs ds : List (List ℕ)} → Permᴰ cs ds → length (together cs) ≡ length (together ds)
perm_long Permᴰ.nil = refl
perm_long (Permᴰ.cons {a} {b} {l₁} {l₂} e p) = let h = perm_long p in rw e (simp length-append (omega arith))
perm_long (Permᴰ.swap {a} {b} {a'} {b'} {l} e f) = rw (e, f) (simp length-append (omega arith))
perm_long (Permᴰ.trans p q) = perm_long p ∙ perm_long q

-- a place for each case: case k of ds is case `place k` of cs
pub record Placed (cs ds : List (List ℕ)) : Type 0 where
  pub place : ℕ → ℕ
  pub inside : (k : ℕ) → k < length cs → place k < length cs
  pub apart : (j k : ℕ) → place j ≡ place k → j ≡ k
  pub same : (k : ℕ) → get_or ds k [] ≡ get_or cs (place k) []
  pub many : length cs ≡ length ds

under : (ℕ → ℕ) → ℕ → ℕ
under σ zero = zero
under σ (suc k) = suc (σ k)

exchange : ℕ → ℕ
exchange zero = 1
exchange (suc zero) = 0
exchange (suc (suc k)) = suc (suc k)

module _ (σ : ℕ → ℕ) where
  under_inside : (n : ℕ) → ((k : ℕ) → k < n → σ k < n) → (k : ℕ) → k < suc n → under σ k < suc n
  unfolding under
  under_inside n h zero l = omega arith
  under_inside n h (suc k) l = let m = h k (omega arith) in omega arith

  under_apart : ((j k : ℕ) → σ j ≡ σ k → j ≡ k) → (j k : ℕ) → under σ j ≡ under σ k → j ≡ k
  unfolding under
  under_apart h zero zero e = refl
  under_apart h zero (suc k) e = absurd (omega arith)
  under_apart h (suc j) zero e = absurd (omega arith)
  under_apart h (suc j) (suc k) e = ap suc (h j k (omega arith))

  under_same : (a b : List ℕ) (cs ds : List (List ℕ)) → a ≡ b → ((k : ℕ) → get_or ds k [] ≡ get_or cs (σ k) []) → (k : ℕ) → get_or (b ∷ ds) k [] ≡ get_or (a ∷ cs) (under σ k) []
  unfolding under
  under_same a b cs ds e h zero = sym e
  under_same a b cs ds e h (suc k) = h k

exchange_inside : (n k : ℕ) → k < suc (suc n) → exchange k < suc (suc n)
unfolding exchange
exchange_inside n zero l = omega arith
exchange_inside n (suc zero) l = omega arith
exchange_inside n (suc (suc k)) l = l

exchange_apart : (j k : ℕ) → exchange j ≡ exchange k → j ≡ k
unfolding exchange
exchange_apart zero zero e = refl
exchange_apart zero (suc zero) e = absurd (omega arith)
exchange_apart zero (suc (suc k)) e = absurd (omega arith)
exchange_apart (suc zero) zero e = absurd (omega arith)
exchange_apart (suc zero) (suc zero) e = refl
exchange_apart (suc zero) (suc (suc k)) e = absurd (omega arith)
exchange_apart (suc (suc j)) zero e = absurd (omega arith)
exchange_apart (suc (suc j)) (suc zero) e = absurd (omega arith)
exchange_apart (suc (suc j)) (suc (suc k)) e = e

exchange_same : (a b a' b' : List ℕ) (l : List (List ℕ)) → a ≡ b' → b ≡ a' → (k : ℕ) → get_or (a' ∷ b' ∷ l) k [] ≡ get_or (a ∷ b ∷ l) (exchange k) []
unfolding exchange
exchange_same a b a' b' l e f zero = sym f
exchange_same a b a' b' l e f (suc zero) = sym e
exchange_same a b a' b' l e f (suc (suc k)) = refl

pub placed : {cs ds : List (List ℕ)} → Permᴰ cs ds → Placed cs ds
placed Permᴰ.nil = record { place = λ k. k; inside = λ k l. l; apart = λ j k e. e; same = λ k. refl; many = refl }
placed (Permᴰ.cons {a} {b} {l₁} {l₂} e p) =
    let q = placed p in
    record {
      place = under q.place;
      inside = under_inside q.place (length l₁) q.inside;
      apart = under_apart q.place q.apart;
      same = under_same q.place a b l₁ l₂ e q.same;
      many = ap suc q.many;
    }
placed (Permᴰ.swap {a} {b} {a'} {b'} {l} e f) =
    record { place = exchange; inside = exchange_inside (length l); apart = exchange_apart; same = exchange_same a b a' b' l e f; many = refl }
placed (Permᴰ.trans p q) =
    let x = placed p in
    let y = placed q in
    record {
      place = λ k. x.place (y.place k);
      inside = λ k l. x.inside (y.place k) (let h = y.inside k (rw (← x.many) l) in rw x.many h);
      apart = λ j k e. y.apart j k (x.apart (y.place j) (y.place k) e);
      same = λ k. y.same k ∙ x.same (y.place k);
      many = x.many ∙ y.many;
    }
