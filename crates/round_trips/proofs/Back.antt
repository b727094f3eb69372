-- Bytes that pass the tests 1 to 3 are the bytes of the facts that they say.
use Prim.Native.Nat.{ℕ, ◌+◌}
use mathlib.Core.Path.{◌≡◌, refl, sym, ap, ◌∙◌}
use mathlib.Core.Bool.{true}
use mathlib.Core.List.{List, ◌++◌}
use mathlib.Core.Logic.{⊎_elim}
use lib.ListN.{length, get_or}
use lib.Dec.{eqb}
use borrow.Author.Tests.{eqb-true}
use Rattle.wire.specs.Numbers.{AreBytes, bytes, elements, number_at}
use Rattle.wire.specs.Tests.{in_range}
use Rattle.wire.proofs.Numbers.{elements_all, bytes_number}
use Rattle.wire.proofs.Tests.{both_true}
use Rattle.facts.specs.Numbers.{price_of, price_number, moment_of, moment_number}
use Rattle.facts.proofs.Numbers.{price_number_lem, moment_number_lem}
use Rattle.codes.proofs.Codes.{side_number_lem, kind_number_lem, day_number_lem, agreement_number_lem, flag_number_lem}
use Rattle.forms.specs.Heads.{known, size_in, kind_in}
use Rattle.forms.specs.Forms.{form_tail, form_of}
use Rattle.forms.proofs.Heads.{lengths, form_one, form_two, head_length_lem, head_kind_lem}
use Rattle.record.specs.Record.{trade_of, market_of, request_of, party_at, settlement_of, facts_of, head_bytes, trade_bytes, market_bytes, flag_bytes, party_bytes, list_bytes, tail_bytes, record_bytes}
use Rattle.refusals.specs.Tests.{head_ok, zeros_ok, lists_ok}
use Rattle.cases.specs.Cases.{Formed}

app : (a b c d : List ℕ) → a ≡ b → c ≡ d → a ++ c ≡ b ++ d
app a b c d p q = cc

-- ---- the coded bytes, each in its list
pub record Listed (s : List ℕ) : Type 0 where
  pub side : in_range 1 2 (get_or s 44 0) ≡ true
  pub opening : in_range 0 1 (get_or s 45 0) ≡ true
  pub expiry : in_range 0 1 (get_or s 46 0) ≡ true
  pub panel : in_range 0 1 (get_or s 47 0) ≡ true
  pub buyer : in_range 1 3 (get_or s 64 0) ≡ true
  pub seller : in_range 1 3 (get_or s 65 0) ≡ true
  pub day : in_range 0 2 (get_or s 66 0) ≡ true
  pub agreement : in_range 0 2 (get_or s 67 0) ≡ true

listed : (s : List ℕ) → lists_ok s ≡ true → Listed s
unfolding lists_ok
listed s h =
    let t1 = both_true _ (in_range 0 2 (get_or s 67 0)) h in
    let t2 = both_true _ (in_range 0 2 (get_or s 66 0)) t1.0 in
    let t3 = both_true _ (in_range 1 3 (get_or s 65 0)) t2.0 in
    let t4 = both_true _ (in_range 1 3 (get_or s 64 0)) t3.0 in
    let t5 = both_true _ (in_range 0 1 (get_or s 47 0)) t4.0 in
    let t6 = both_true _ (in_range 0 1 (get_or s 46 0)) t5.0 in
    let t7 = both_true (in_range 1 2 (get_or s 44 0)) (in_range 0 1 (get_or s 45 0)) t6.0 in
    record { side = t7.0; opening = t7.1; expiry = t6.1; panel = t5.1; buyer = t4.1; seller = t3.1; day = t2.1; agreement = t1.1 }

-- ---- stretch by stretch
module _ (s : List ℕ) (small : AreBytes s) where
  number_at_lem : (i : ℕ) → bytes 4 (number_at 4 s i) ≡ elements 4 s i
  number_at_lem i = bytes_number s small 4 i

  price_at : (i : ℕ) → bytes 4 (price_number (price_of (number_at 4 s i))) ≡ elements 4 s i
  price_at i = ap (bytes 4) (price_number_lem (number_at 4 s i)) ∙ number_at_lem i

  moment_at : (i : ℕ) → bytes 4 (moment_number (moment_of (number_at 4 s i))) ≡ elements 4 s i
  moment_at i = ap (bytes 4) (moment_number_lem (number_at 4 s i)) ∙ number_at_lem i

  known_at : (w i k : ℕ) → number_at w s i ≡ k → bytes w k ≡ elements w s i
  known_at w i k e = ap (bytes w) (sym e) ∙ bytes_number s small w i

  head_back : known (size_in s) (kind_in s) ≡ true → length s ≡ size_in s → head_bytes (form_of s) ≡ elements 4 s 0
  head_back pair long = app _ _ _ _ (known_at 2 0 _ (head_length_lem s pair long)) (known_at 2 2 _ (head_kind_lem s pair long))

  trade_back : trade_bytes (trade_of s) ≡ elements 16 s 4
  unfolding trade_of
  trade_back = app _ _ _ _ (number_at_lem 4) (app _ _ _ _ (number_at_lem 8) (app _ _ _ _ (number_at_lem 12) (number_at_lem 16)))

  market_back : number_at 4 s 36 ≡ 0 → market_bytes (market_of s) ≡ elements 24 s 20
  unfolding market_of
  market_back z =
      app _ _ _ _ (price_at 20)
      (app _ _ _ _ (price_at 24) (app _ _ _ _ (number_at_lem 28) (app _ _ _ _ (number_at_lem 32) (app _ _ _ _ (known_at 4 36 0 z) (price_at 40)))))

  flags_back : Listed s → flag_bytes (request_of s) ≡ elements 4 s 44
  unfolding request_of
  flags_back l = cc (side_number_lem _ l.side, flag_number_lem _ l.opening, flag_number_lem _ l.expiry, flag_number_lem _ l.panel)

  party_back : (at kind : ℕ) → party_bytes (party_at s at kind) ≡ elements 4 s at ++ elements 4 s (at + 4)
  unfolding party_at
  party_back at kind = app (elements 4 s at) (elements 4 s at) _ _ refl (price_at (at + 4))

  lists_back : Listed s → list_bytes (facts_of s) ≡ elements 4 s 64
  unfolding facts_of party_at request_of settlement_of
  lists_back l = cc (kind_number_lem _ l.buyer, kind_number_lem _ l.seller, day_number_lem _ l.day, agreement_number_lem _ l.agreement)

  tail_back : number_at 4 s 84 ≡ 0 → tail_bytes (request_of s).filed (settlement_of s) ≡ elements 20 s 68
  unfolding request_of settlement_of
  tail_back z = app _ _ _ _ (price_at 68) (app _ _ _ _ (number_at_lem 72) (app _ _ _ _ (number_at_lem 76) (app _ _ _ _ (moment_at 80) (known_at 4 84 0 z))))

  -- what the form adds is what stands behind the 88 bytes
  one_back : length s ≡ 88 → form_tail (form_of s) ≡ elements 0 s 88
  one_back e = ap form_tail (form_one s e)

  two_back : length s ≡ 92 → form_tail (form_of s) ≡ elements 4 s 88
  two_back e = ap form_tail (form_two s e) ∙ number_at_lem 88

  -- the stretches, with what stands behind them
  module _ (f : Formed s) (w : ℕ) (behind : form_tail (form_of s) ≡ elements w s 88) where
    stretches : record_bytes (facts_of s)
        ≡ elements 4 s 0
        ++ (elements 16 s 4
        ++ (elements 24 s 20 ++ (elements 4 s 44 ++ (elements 8 s 48 ++ (elements 8 s 56 ++ (elements 4 s 64 ++ (elements 20 s 68 ++ elements w s 88)))))))
    unfolding facts_of zeros_ok head_ok
    stretches =
        let head = both_true (known (size_in s) (kind_in s)) (eqb (size_in s) (length s)) f.head in
        let z = both_true (eqb (number_at 4 s 36) 0) (eqb (number_at 4 s 84) 0) f.zeros in
        let l = listed s f.lists in
        app _ _ _ _ (head_back head.0 (sym (eqb-true (size_in s) (length s) head.1)))
        (app _ _ _ _ trade_back
        (app _ _ _ _ (market_back (eqb-true (number_at 4 s 36) 0 z.0))
        (app _ _ _ _ (flags_back l)
        (app _ _ _ _ (party_back 48 64)
        (app _ _ _ _ (party_back 56 65)
        (app _ _ _ _ (lists_back l) (app _ _ _ _ (tail_back (eqb-true (number_at 4 s 84) 0 z.1)) behind)))))))

  pub bytes_back : Formed s → record_bytes (facts_of s) ≡ s
  bytes_back f =
      ⊎_elim
      (λ e. stretches f 0 (one_back e) ∙ elements_all 88 s e)
      (λ e. stretches f 4 (two_back e) ∙ elements_all 92 s e)
      (lengths (length s) f.whole)
