-- A price and its size, and the fields of a record, by the test that decides.
use Prim.Native.Nat.{ℕ, ◌+◌, ◌*◌, ◌≤◌, ◌<◌}
use mathlib.Core.Path.{◌≡◌, refl}
use mathlib.Core.Bool.{Bool, true, false, ◌&&◌, and_comm, and-true}
use mathlib.Core.List.{List}
use native.Mathlib.Omega.{arith}
use lib.Dec.{leb, eqb}
use borrow.Author.Tests.{le-leb, lt-leb, leb-true, eq-eqb, ne_eqb}
use Rattle.wire.specs.Numbers.{number_at}
use Rattle.wire.specs.Tests.{pick, in_range}
use Rattle.wire.proofs.Tests.{both_true}
use Rattle.facts.specs.Numbers.{mills, price_of}
use Rattle.refusals.specs.Tests.{price_ok, quote_ok}
use Rattle.quotes.specs.Words.{None, Some}
use Rattle.quotes.specs.Quotes.{quote_of, posted_at, is_quote, side_ok, fields_ok, record_ok}

module _ (p n : ℕ) where
  said : p ≤ 9999999 → price_of p ≡ Some (mills p)
  unfolding price_of
  said h = simp (ne_eqb p 4294967295 (λ e. omega arith))

  pub side_priced : (leb 1 p && leb p 9999999) ≡ true → (leb 1 n && leb n 1000000) ≡ side_ok (quote_of p n)
  unfolding side_ok
  side_priced h =
      let ends = both_true (leb 1 p) _ h in
      let lo = leb-true 1 p ends.0 in
      simp (said (leb-true p 9999999 ends.1), ends.1, ne_eqb p 0 (λ e. omega arith)) (and_comm (leb 1 n) (leb n 1000000))

  pub side_zero : p ≡ 0 → leb n 1000000 ≡ side_ok (quote_of p n)
  unfolding side_ok
  side_zero h = simp (said (omega arith), le-leb p 9999999 (omega arith), eq-eqb p 0 h, and-true)

  -- neither: only none is left
  pub side_none : (leb 1 p && leb p 9999999) ≡ false → (p ≡ 0 → ⊥) → (eqb p 4294967295 && eqb n 0) ≡ side_ok (quote_of p n)
  unfolding side_ok price_of
  side_none h some = by_test (eqb p 4294967295) where
    above : leb p 9999999 ≡ false
    above = simp (le-leb 1 p (omega (arith, some))) at h

    by_test : (b : Bool) → (b && eqb n 0) ≡ (price_ok (pick b None (Some (mills p))) && quote_ok (pick b None (Some (mills p))) (record { 0 = n }))
    by_test true = refl
    by_test false = simp above

module _ (s : List ℕ) (k : ℕ) where
  -- ---- length and kind
  module _ (a : ℕ) (ia : a ≡ number_at 2 s (k * 28)) where
    pub no_length : (a ≡ 28 → ⊥) → false ≡ is_quote s k
    unfolding is_quote
    no_length h = rw (← ia, ne_eqb a 28 h)

    pub kind_tells : a ≡ 28 → (b : ℕ) → b ≡ number_at 2 s (k * 28 + 2) → eqb b 32 ≡ is_quote s k
    unfolding is_quote
    kind_tells h b ib = rw (← ia, eq-eqb a 28 h, ← ib)

  -- ---- exchange, time, both sides
  module _ (e : ℕ) (ie : e ≡ number_at 4 s (k * 28 + 4)) where
    pub bad_exchange : (leb 1 e && leb e 16) ≡ false → false ≡ fields_ok (posted_at s k)
    unfolding fields_ok posted_at in_range
    bad_exchange h = rw (← ie, h)

    module _ (he : (leb 1 e && leb e 16) ≡ true) (t : ℕ) (it : t ≡ number_at 4 s (k * 28 + 8)) where
      pub bad_time : 86399 < t → false ≡ fields_ok (posted_at s k)
      unfolding fields_ok posted_at in_range
      bad_time h = rw (← ie, he, ← it, lt-leb t 86399 h)

      module _ (ht : t ≤ 86399) (b bs : ℕ) (ib : b ≡ number_at 4 s (k * 28 + 12)) (ibs : bs ≡ number_at 4 s (k * 28 + 20)) (x : Bool)
          (ix : x ≡ side_ok (quote_of b bs)) where
        pub bad_bid : x ≡ false → false ≡ fields_ok (posted_at s k)
        unfolding fields_ok posted_at in_range
        bad_bid h = rw (← ie, he, ← it, le-leb t 86399 ht, ← ib, ← ibs, ← ix, h)

        pub offer_tells : x ≡ true → (o os : ℕ) → o ≡ number_at 4 s (k * 28 + 16) → os ≡ number_at 4 s (k * 28 + 24) → (y : Bool) → y ≡ side_ok (quote_of o os)
            → y ≡ fields_ok (posted_at s k)
        unfolding fields_ok posted_at in_range
        offer_tells h o os io ios y iy = rw (← ie, he, ← it, le-leb t 86399 ht, ← ib, ← ibs, ← ix, h, ← io, ← ios) iy

  -- ---- the record
  pub no_quote_lem : is_quote s k ≡ false → false ≡ record_ok s k
  unfolding record_ok
  no_quote_lem h = rw h

  pub fields_tell : is_quote s k ≡ true → (x : Bool) → x ≡ fields_ok (posted_at s k) → x ≡ record_ok s k
  unfolding record_ok
  fields_tell h x ix = rw h ix
