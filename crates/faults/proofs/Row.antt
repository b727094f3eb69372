-- The number of the first test that the facts fail, by the test that stops.
use Prim.Native.Nat.{ℕ}
use mathlib.Core.Path.{◌≡◌, ◌∙◌}
use mathlib.Core.Bool.{Bool, true, false}
use Rattle.wire.specs.Tests.{pick}
use Rattle.facts.specs.declared.Facts.{Facts}
use Rattle.refusals.specs.Tests.{codes_ok, prices_ok, counts_ok, times_ok, limits_ok, agreement_ok, later_fault_of, fault_of}

module _ (f : Facts) where
  pub codes_stop : codes_ok f.buyer f.seller ≡ false → 4 ≡ fault_of f
  unfolding fault_of
  codes_stop h = simp (h)

  -- where the codes are in order, the tests from 5 on decide
  pub codes_pass : (n : ℕ) → codes_ok f.buyer f.seller ≡ true → n ≡ later_fault_of f → n ≡ fault_of f
  unfolding fault_of later_fault_of
  codes_pass n codes e = e ∙ simp (codes)

  pub prices_stop : prices_ok f ≡ false → 5 ≡ later_fault_of f
  unfolding later_fault_of
  prices_stop h = simp (h)

  module _ (prices : prices_ok f ≡ true) where
    pub counts_stop : counts_ok f.trade f.market ≡ false → 6 ≡ later_fault_of f
    unfolding later_fault_of
    counts_stop h = simp (prices, h)

    module _ (counts : counts_ok f.trade f.market ≡ true) where
      pub times_stop : times_ok f.trade f.request f.settlement ≡ false → 7 ≡ later_fault_of f
      unfolding later_fault_of
      times_stop h = simp (prices, counts, h)

      module _ (times : times_ok f.trade f.request f.settlement ≡ true) where
        pub limits_stop : limits_ok f.trade f.buyer f.seller ≡ false → 8 ≡ later_fault_of f
        unfolding later_fault_of
        limits_stop h = simp (prices, counts, times, h)

        module _ (limits : limits_ok f.trade f.buyer f.seller ≡ true) where
          pub agreement_stops : (n : ℕ) (ok : Bool) → ok ≡ agreement_ok f.settlement.agreement f.settlement.agreed f.settlement.made → n ≡ pick ok 0 9 → n ≡ later_fault_of f
          unfolding later_fault_of
          agreement_stops n ok e h = h ∙ simp (e, prices, counts, times, limits)
