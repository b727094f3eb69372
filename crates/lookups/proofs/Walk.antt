-- Where the walk back stops: at the first of its quotes by which all sixteen are known, and the quotes before that one change nothing.
use Prim.Native.Nat.{ℕ, suc, ◌-◌, ◌≤◌, ◌<◌}
use mathlib.Core.Path.{◌≡◌, refl, sym, ap, ◌∙◌}
use mathlib.Core.Bool.{Bool, true, false, true≢false}
use mathlib.Core.Logic.{◌⊎◌, inl, inr, ⊎_elim}
use mathlib.Core.List.{List, [], ◌∷◌, ◌++◌}
use native.Mathlib.Omega.{arith}
use lib.Dec.{ltb}
use lib.ListN.{length, take, drop, length-append, length-drop, take-append-drop}
use lib.Seq.{length-take-le}
use borrow.Author.Tests.{ltb-true, ltb-false}
use Rattle.wire.specs.Tests.{pick}
use Rattle.best.specs.Words.{Posted}
use Rattle.best.specs.Lasts.{lasts}
use Rattle.best.specs.Examined.{all_known, examined_in}
use Rattle.best.specs.Found.{found_in}
use Rattle.best.specs.Looked.{looked_in}
use Rattle.best.proofs.Known.{kept}
use Rattle.best.proofs.Own.{examined_most}
use Rattle.lookups.specs.Lookups.{StopsAt}

-- one quote in front: it is read with all the others, or not at all
in_front : (q : Posted) (qs : List Posted) → examined_in (q ∷ qs) ≡ pick (all_known (lasts qs)) (examined_in qs) (suc (length qs))
unfolding examined_in
in_front q qs = refl

past : (q : Posted) (qs : List Posted) → all_known (lasts qs) ≡ true → looked_in (q ∷ qs) ≡ looked_in qs
unfolding looked_in found_in
past q qs h = rw (in_front q qs, h, kept q qs h)

-- all sixteen are known in qs: whatever stands before it is not read, and changes nothing
all_known_kept : (ps qs : List Posted) → all_known (lasts qs) ≡ true → lasts (ps ++ qs) ≡ lasts qs
all_known_kept [] qs h = refl
all_known_kept (p ∷ ps) qs h = let e = all_known_kept ps qs h in kept p (ps ++ qs) (ap all_known e ∙ h) ∙ e

pub all_known_same : (ps qs : List Posted) → all_known (lasts qs) ≡ true → looked_in (ps ++ qs) ≡ looked_in qs
all_known_same [] qs h = refl
all_known_same (p ∷ ps) qs h = past p (ps ++ qs) (ap all_known (all_known_kept ps qs h) ∙ h) ∙ all_known_same ps qs h

-- the walk over ps and qs does not leave qs
pub not_reached : (ps qs : List Posted) → examined_in (ps ++ qs) ≤ length qs → looked_in (ps ++ qs) ≡ looked_in qs
not_reached [] qs h = refl
not_reached (p ∷ ps) qs h = by_test (all_known (lasts (ps ++ qs))) refl (not_reached ps qs) where
  by_test : (b : Bool) → all_known (lasts (ps ++ qs)) ≡ b → (examined_in (ps ++ qs) ≤ length qs → looked_in (ps ++ qs) ≡ looked_in qs)
      → looked_in (p ∷ (ps ++ qs)) ≡ looked_in qs
  by_test true e more = past p (ps ++ qs) e ∙ more (rw (in_front p (ps ++ qs), e) at h)
  by_test false e more = let all : suc (length (ps ++ qs)) ≤ length qs = rw (in_front p (ps ++ qs), e) at h in
      let z : ⊥ = omega (arith, length-append ps qs) in absurd z

-- ---- the count: fewer quotes do not make all sixteen known; so many do, or they are all
fewer : (ps qs : List Posted) → length qs < examined_in (ps ++ qs) → all_known (lasts qs) ≡ false
fewer [] qs h = let z : ⊥ = omega (arith, examined_most qs) in absurd z
fewer (p ∷ ps) qs h = by_test (all_known (lasts (ps ++ qs))) (all_known (lasts qs)) refl refl (fewer ps qs) where
  by_test : (b c : Bool) → all_known (lasts (ps ++ qs)) ≡ b → all_known (lasts qs) ≡ c → (length qs < examined_in (ps ++ qs) → all_known (lasts qs) ≡ false)
      → all_known (lasts qs) ≡ false
  by_test true c e f more = more (rw (in_front p (ps ++ qs), e) at h)
  by_test false true e f more = absurd (true≢false (sym (ap all_known (all_known_kept ps qs f) ∙ f) ∙ e))
  by_test false false e f more = f

enough : (p : Posted) (ps qs : List Posted) → length qs ≡ examined_in (p ∷ (ps ++ qs)) → all_known (lasts qs) ≡ true
enough p [] qs h = by_test (all_known (lasts qs)) refl where
  by_test : (b : Bool) → all_known (lasts qs) ≡ b → all_known (lasts qs) ≡ true
  by_test true e = e
  by_test false e = let all : length qs ≡ suc (length qs) = rw (in_front p qs, e) at h in let z : ⊥ = omega arith in absurd z
enough p (q ∷ ps) qs h = by_test (all_known (lasts (q ∷ (ps ++ qs)))) refl (enough q ps qs) where
  by_test : (b : Bool) → all_known (lasts (q ∷ (ps ++ qs))) ≡ b → (length qs ≡ examined_in (q ∷ (ps ++ qs)) → all_known (lasts qs) ≡ true)
      → all_known (lasts qs) ≡ true
  by_test true e more = more (rw (in_front p (q ∷ (ps ++ qs)), e) at h)
  by_test false e more = let all : length qs ≡ suc (length (q ∷ (ps ++ qs))) = rw (in_front p (q ∷ (ps ++ qs)), e) at h in
      let z : ⊥ = omega (arith, length-append ps qs) in absurd z

all_or_enough : (ps qs : List Posted) → length qs ≡ examined_in (ps ++ qs) → (ps ≡ []) ⊎ (all_known (lasts qs) ≡ true)
all_or_enough [] qs h = inl refl
all_or_enough (p ∷ ps) qs h = inr (enough p ps qs h)

pub stops : (ps qs : List Posted) → StopsAt ps qs (examined_in (ps ++ qs))
stops ps qs = (fewer ps qs, all_or_enough ps qs)

-- ---- and no other number is so: a list cut where the smaller of two would stop
module _ (qs : List Posted) where
  abbrev Stops : ℕ → Type 0
  Stops n = (ps rs : List Posted) → qs ≡ ps ++ rs → StopsAt ps rs n

  clash : (n m : ℕ) → n < m → m ≤ length qs → Stops n → Stops m → ⊥
  clash n m less room at_n at-m =
      let ps = take (length qs - n) qs in
      let rs = drop (length qs - n) qs in
      let is : qs ≡ ps ++ rs = sym (take-append-drop (length qs - n) qs) in
      let some : length ps ≡ length qs - n = length-take-le (length qs - n) qs (omega arith) in
      let so-many : length rs ≡ n = omega (arith, length-drop (length qs - n) qs) in
      ⊎_elim
      (λ none. let z : length ps ≡ 0 = ap length none in omega arith)
      (λ known. true≢false (sym known ∙ (at-m ps rs is).0 (omega arith)))
      ((at_n ps rs is).1 so-many)

  pub only_stop : (n : ℕ) → n ≤ length qs → Stops n → n ≡ examined_in qs
  only_stop n room at_n = by_test (ltb n (examined_in qs)) (ltb (examined_in qs) n) refl refl where
    at_count : Stops (examined_in qs)
    at_count ps rs is = rw is (stops ps rs)

    by_test : (b c : Bool) → ltb n (examined_in qs) ≡ b → ltb (examined_in qs) n ≡ c → n ≡ examined_in qs
    by_test true c e f = absurd (clash n (examined_in qs) (ltb-true n (examined_in qs) e) (examined_most qs) at_n at_count)
    by_test false true e f = absurd (clash (examined_in qs) n (ltb-true (examined_in qs) n f) room at_count at_n)
    by_test false false e f = omega (arith, ltb-false n (examined_in qs) e, ltb-false (examined_in qs) n f)
