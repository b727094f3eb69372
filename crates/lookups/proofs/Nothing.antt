-- Quotes that change nothing: those at the trade's second or later, and those that another of their exchange overtakes before the trade.
use Rattle.std.specs.Prelude.{Some, None}
use Prim.Native.Nat.{ℕ, zero, suc, ◌+◌}
use mathlib.Core.Path.{◌≡◌, refl, sym, ap, ◌∙◌}
use mathlib.Core.Bool.{Bool, true, false}
use mathlib.Core.List.{List, [], ◌∷◌, ◌++◌}
use lib.Dec.{ltb, eqb}
use borrow.Author.Tests.{le-ltb, eqb-true}
use Rattle.wire.specs.Tests.{pick}
use Rattle.wire.proofs.Tests.{either}
use Rattle.quotes.specs.Quotes.{posted_in}
use Rattle.lookups.proofs.Joined.{joined_posted}
use Rattle.best.specs.Words.{Posted}
use Rattle.earlier.specs.Earlier.{earlier}
use Rattle.best.specs.Lasts.{or_else, last_of, lasts_from, lasts}
use Rattle.best.specs.Found.{found_in, found_of}
use Rattle.best.proofs.Known.{or_nothing}
use Rattle.best.proofs.Own.{found_number}
use Rattle.lookups.proofs.Looked.{good_found}
use Rattle.lookups.proofs.Fewer.{still_good}
use Rattle.lookups.specs.Lookups.{AllLate, AllOvertaken, Whole}

-- ---- what is found depends on the last quotes of the sixteen alone
lasts_same : (ps qs : List Posted) → ((e : ℕ) → last_of e ps ≡ last_of e qs) → (n e : ℕ) → lasts_from e n ps ≡ lasts_from e n qs
unfolding lasts_from
lasts_same ps qs h zero e = refl
lasts_same ps qs h (suc n) e = rw (h e, lasts_same ps qs h n (suc e))

pub found_same : (ps qs : List Posted) → lasts ps ≡ lasts qs → found_in ps ≡ found_in qs
unfolding found_in
found_same ps qs h = rw h

-- ---- those at the trade's second or later
pub earlier_append : (t : ℕ) (ps qs : List Posted) → earlier t (ps ++ qs) ≡ earlier t ps ++ earlier t qs
unfolding earlier
earlier_append t [] qs = refl
earlier_append t (p ∷ ps) qs =
    rw (earlier_append t ps qs) (either (λ l. pick (ltb p.time.0 t) (p ∷ (earlier t ps ++ earlier t qs)) (earlier t ps ++ earlier t qs) ≡ l ++ earlier t qs)
    (ltb p.time.0 t) (p ∷ earlier t ps) (earlier t ps) (λ e. rw e) (λ e. rw e))

pub late_none : (t : ℕ) (qs : List Posted) → AllLate t qs → earlier t qs ≡ []
unfolding earlier
late_none t [] h = refl
late_none t (q ∷ qs) h = simp (le-ltb q.time.0 t h.0) (late_none t qs h.1)

pub late_nothing : (t : ℕ) (ps qs rs : List Posted) → AllLate t qs → earlier t (ps ++ (qs ++ rs)) ≡ earlier t (ps ++ rs)
late_nothing t ps qs rs h =
    earlier_append t ps (qs ++ rs) ∙ ap (λ (l : List Posted). earlier t ps ++ l) (earlier_append t qs rs ∙ rw (late_none t qs h)) ∙ sym (earlier_append t ps rs)

-- ---- those that are overtaken
-- whatever stands before: the last quotes of a list with the same last quotes behind it
behind : (e : ℕ) (ps qs rs : List Posted) → last_of e qs ≡ last_of e rs → last_of e (ps ++ qs) ≡ last_of e (ps ++ rs)
unfolding last_of
behind e [] qs rs h = h
behind e (p ∷ ps) qs rs h = rw (behind e ps qs rs h)

-- a quote of exchange e before a list in which e is known
passed : (e : ℕ) (q p : Posted) (qs : List Posted) → last_of q.exchange qs ≡ Some p → last_of e (q ∷ qs) ≡ last_of e qs
unfolding last_of
passed e q p qs h = by_test (eqb q.exchange e) refl where
  by_test : (b : Bool) → eqb q.exchange e ≡ b → or_else (last_of e qs) (pick b (Some q) None) ≡ last_of e qs
  by_test true z = let is : last_of e qs ≡ Some p = rw (eqb-true q.exchange e z) at h in rw is
  by_test false z = or_nothing (last_of e qs)

-- known behind, known with more in front
known_behind : (e : ℕ) (p : Posted) (ps qs : List Posted) → last_of e qs ≡ Some p → last_of e (ps ++ qs) ≡ Some p
unfolding last_of
known_behind e p [] qs h = h
known_behind e p (x ∷ ps) qs h = rw (known_behind e p ps qs h)

overtaken : (t e : ℕ) (qs rs : List Posted) → AllOvertaken t qs rs → last_of e (earlier t qs ++ earlier t rs) ≡ last_of e (earlier t rs)
unfolding earlier
overtaken t e [] rs h = refl
overtaken t e (q ∷ qs) rs h =
    let o = h.0 in
    let first : last_of e (q ∷ (earlier t qs ++ earlier t rs)) ≡ last_of e (earlier t qs ++ earlier t rs) =
    passed e q o.0 (earlier t qs ++ earlier t rs) (known_behind q.exchange o.0 (earlier t qs) (earlier t rs) o.1) in
    let more = overtaken t e qs rs h.1 in
    either (λ l. last_of e (l ++ earlier t rs) ≡ last_of e (earlier t rs)) (ltb q.time.0 t) (q ∷ earlier t qs) (earlier t qs) (λ z. first ∙ more) (λ z. more)

pub overtaken_nothing : (t : ℕ) (ps qs rs : List Posted) → AllOvertaken t qs rs → lasts (earlier t (ps ++ (qs ++ rs))) ≡ lasts (earlier t (ps ++ rs))
overtaken_nothing t ps qs rs h =
    let one : (e : ℕ) → last_of e (earlier t (ps ++ (qs ++ rs))) ≡ last_of e (earlier t (ps ++ rs)) =
    λ e. ap (last_of e) (earlier_append t ps (qs ++ rs) ∙ ap (λ (l : List Posted). earlier t ps ++ l) (earlier_append t qs rs))
    ∙ behind e (earlier t ps) (earlier t qs ++ earlier t rs) (earlier t rs) (overtaken t e qs rs h)
    ∙ ap (last_of e) (sym (earlier_append t ps rs)) in
    lasts_same (earlier t (ps ++ (qs ++ rs))) (earlier t (ps ++ rs)) one 16 1

-- ---- in bytes: records r between the records a and b
module _ (a r b : List ℕ) (t : ℕ) (wa : Whole a) (wr : Whole r) (with-them : (found_of (a ++ (r ++ b)) t).refusal ≡ 0) where
  without : (found_of (a ++ b) t).refusal ≡ 0
  without = found_number (a ++ b) t ∙ still_good a r b t wa wr (sym (found_number (a ++ (r ++ b)) t) ∙ with-them)

  same_found : lasts (earlier t (posted_in a ++ (posted_in r ++ posted_in b))) ≡ lasts (earlier t (posted_in a ++ posted_in b))
      → found_of (a ++ (r ++ b)) t ≡ found_of (a ++ b) t
  same_found h =
      good_found (a ++ (r ++ b)) t with-them
      ∙ ap found_in (ap (earlier t) (joined_posted a (r ++ b) wa ∙ ap (λ (l : List Posted). posted_in a ++ l) (joined_posted r b wr)))
      ∙ found_same _ _ h
      ∙ ap found_in (ap (earlier t) (sym (joined_posted a b wa)))
      ∙ sym (good_found (a ++ b) t without)

  pub late_bytes : AllLate t (posted_in r) → found_of (a ++ (r ++ b)) t ≡ found_of (a ++ b) t
  late_bytes h = same_found (ap lasts (late_nothing t (posted_in a) (posted_in r) (posted_in b) h))

  pub overtaken_bytes : AllOvertaken t (posted_in r) (posted_in b) → found_of (a ++ (r ++ b)) t ≡ found_of (a ++ b) t
  overtaken_bytes h = same_found (overtaken_nothing t (posted_in a) (posted_in r) (posted_in b) h)
