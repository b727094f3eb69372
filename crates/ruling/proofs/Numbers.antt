-- Every ruling in the page's numbers. A new price comes from the agreement that is heeded or from the act, and an act sets it by its reason.
use Prim.Native.Nat.{ℕ}
use mathlib.Core.Path.{◌≡◌, refl, sym, ap}
use mathlib.Core.Bool.{true}
use mathlib.Core.Logic.{⊎_elim}
use native.Mathlib.Omega.{arith}
use lib.Dec.{eqb}
use borrow.Author.Tests.{ne_eqb}
use Rattle.wire.specs.Tests.{pick, in_range}
use Rattle.wire.proofs.Tests.{range_ends, each_listed}
use Rattle.facts.specs.Numbers.{price_number}
use Rattle.bands.specs.Table.{band_of}
use Rattle.agreement.specs.Agreed.{accepted_in_time}
use Rattle.act.proofs.Reasons.{act_told}
use Rattle.ruling.specs.Words.{Mills, None, Facts, Way, Source, Theory, Some, Ruling}
use Rattle.ruling.specs.Outcomes.{outcome_number, new_price, counts_of}
use Rattle.ruling.specs.Ruling.{ruling_of}
use Rattle.ruling.specs.Numbers.{act_price_at, new_price_for, way_in, theory_in, not_looked_for, cover_for, InNumbers}
use Rattle.ruling.proofs.Walk.{Grounds, each_ruling}
use Rattle.ruling.proofs.Reasons.{reasons_agree}
use Rattle.ruling.proofs.Laws.{sums, heeded_price}
use Rattle.ruling.proofs.Origins.{tp_number, tp_origin}

-- ---- the new price
module _ (f : Facts) where
  abbrev set : ℕ → Theory → ℕ
  set reason tp = pick (eqb reason 10) (price_number f.settlement.agreed) (act_price_at reason f.request.side tp)

  -- neither 2 and 3, which have no TP, nor 1 to 5 nor 11 to 13 set one
  shut : (r : ℕ) → not_looked_for r ≡ true → price_number None ≡ set r None
  unfolding in_range
  shut r h = each_listed (λ (n : ℕ). price_number None ≡ set n None) 1 2 (refl, refl) r h

  unrelieved : (r : ℕ) (s : Source) → in_range 1 5 r ≡ true → price_number None ≡ set r (Some s)
  unfolding in_range
  unrelieved r s h = each_listed (λ (n : ℕ). price_number None ≡ set n (Some s)) 4 1 (refl, (refl, (refl, (refl, refl)))) r h

  undone : (r : ℕ) (s : Source) → in_range 11 13 r ≡ true → price_number None ≡ set r (Some s)
  unfolding in_range
  undone r s h = each_listed (λ (n : ℕ). price_number None ≡ set n (Some s)) 2 11 (refl, (refl, refl)) r h

  repriced : (way : Way) (s : Source) (r : ℕ) (p : Mills) → Grounds f way s r p → p.0 ≡ set r (Some s)
  repriced way s r p g =
      ⊎_elim
      (λ c. rw c.0 (ap price_number (sym (heeded_price f way p c.1))))
      (λ c.
      let told = (act_told way f.request.side f.buyer f.seller (accepted_in_time f.settlement.accepted) s.price (band_of s.price)).1 in
      let k = range_ends 6 9 r c.0 in
      simp (ne_eqb r 10 (λ e. omega arith)) (rw c.1 at told))
      g.cause

  pub prices : price_number (new_price (ruling_of f).outcome) ≡ new_price_for f (ruling_of f)
  prices =
      each_ruling f (λ (r : Ruling). price_number (new_price r.outcome) ≡ new_price_for f r)
      (λ r h. shut r h) (λ e. refl) (λ s r e h n. unrelieved r s h) (λ s r e h. undone r s h) (λ way s r p g. repriced way s r p g)

-- ---- the counts
module _ (f : Facts) where
  abbrev cover : ℕ
  cover = cover_for f.trade.contracts (way_in f) (theory_in f)

  repriced_count : (counts_of (ruling_of f).outcome).adjusted.0 ≡ pick (eqb (outcome_number (ruling_of f).outcome) 1) cover 0
  repriced_count =
      each_ruling f (λ (r : Ruling). (counts_of r.outcome).adjusted.0 ≡ pick (eqb (outcome_number r.outcome) 1) cover 0)
      (λ r h. refl) (λ e. refl) (λ s r e h n. refl) (λ s r e h. refl) (λ way s r p g. sym (cc (g.opened, g.found)))

  undone_count : (counts_of (ruling_of f).outcome).nullified.0 ≡ pick (eqb (outcome_number (ruling_of f).outcome) 2) f.trade.contracts.0 0
  undone_count =
      each_ruling f (λ (r : Ruling). (counts_of r.outcome).nullified.0 ≡ pick (eqb (outcome_number r.outcome) 2) f.trade.contracts.0 0)
      (λ r h. refl) (λ e. refl) (λ s r e h n. refl) (λ s r e h. refl) (λ way s r p g. refl)

  pub numbers : InNumbers f (ruling_of f)
  numbers =
      record {
        outcome = reasons_agree f;
        tp = tp_number f;
        origin = tp_origin f;
        price = prices f;
        repriced = repriced_count;
        undone = undone_count;
        rest = sums f;
      }

-- the promise of `rule` from its equation
pub ruled : (f : Facts) (r : Ruling) → r ≡ ruling_of f → (r ≡ ruling_of f) × InNumbers f r
ruled f r e = (e, rw e (numbers f))
