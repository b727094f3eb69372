-- What is found, by its number.
use Prim.Native.Nat.{ℕ}
use mathlib.Core.Path.{◌≡◌, refl, sym, ◌∙◌}
use mathlib.Core.List.{List}
use lib.Dec.{eqb}
use Rattle.wire.proofs.Tests.{either}
use Rattle.quotes.specs.Quotes.{posted_in, quotes_refusal_of}
use Rattle.best.specs.declared.Found.{Found}
use Rattle.earlier.specs.Earlier.{earlier}
use Rattle.best.specs.Found.{refused, found_in, found_of}
use Rattle.best.proofs.Own.{found_number, found}

module _ (s : List ℕ) (t : ℕ) where
  -- beside 0 the best among the quotes strictly before the trade
  pub good_found : (found_of s t).refusal ≡ 0 → found_of s t ≡ found_in (earlier t (posted_in s))
  good_found h = sym (found s t (sym (found_number s t) ∙ h))

  -- beside another number nothing is found
  pub refused_none : ((found_of s t).refusal ≡ 0 → ⊥) → found_of s t ≡ refused (found_of s t).refusal
  unfolding found_of found_in
  refused_none h =
      either (λ (f : Found). (f.refusal ≡ 0 → ⊥) → f ≡ refused f.refusal) (eqb (quotes_refusal_of s t) 0) (found_in (earlier t (posted_in s)))
      (refused (quotes_refusal_of s t)) (λ e g. absurd (g refl)) (λ e g. refl) h
