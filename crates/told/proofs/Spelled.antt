-- Bytes as many as a case has, whose coded ones are in their lists, spell the facts that are read from them.
use Prim.Native.Nat.{ℕ, ◌+◌, ◌≤◌}
use mathlib.Core.Path.{◌≡◌, refl, sym, ◌∙◌}
use mathlib.Core.Bool.{Bool, true, false}
use mathlib.Core.List.{List}
use native.Mathlib.Numerals.{unary_clauses}
use native.Mathlib.Nat.{le_trans}
use lib.ListN.{length, get_or}
use lib.Dec.{T, leb, ltb, leb→le}
use borrow.Author.Tests.{eqb-false, ltb-false}
use Rattle.wire.specs.Numbers.{number_at}
use Rattle.wire.specs.Tests.{pick, in_range}
use Rattle.wire.proofs.Tests.{both_true}
use Rattle.facts.specs.Numbers.{mills, price_number, price_of}
use Rattle.facts.proofs.Numbers.{price_number_lem, moment_number_lem}
use Rattle.codes.proofs.Codes.{kind_number_lem, day_number_lem, agreement_number_lem, flag_number_lem}
use Rattle.forms.specs.Forms.{differential_of, form_of}
use Rattle.forms.proofs.Heads.{has_88}
use Rattle.record.specs.Record.{trade_of, market_of, request_of, party_at, settlement_of, facts_of}
use Rattle.refusals.specs.Tests.{length_ok, lists_ok}
use Rattle.told.specs.Words.{Mills, Some, One, Two}
use Rattle.told.specs.Stands.{InBytes}
use Rattle.told.specs.Spelled.{Spelled}

-- a number of one byte is the byte
one_byte : (s : List ℕ) (i : ℕ) → number_at 1 s i ≡ get_or s i 0
unfolding number_at
one_byte s i = simp unary_clauses

-- a record that has a differential has it at byte 88
differential_read : (s : List ℕ) (d : Mills) → differential_of (form_of s) ≡ Some d → InBytes 4 s 88 d.0
unfolding form_of
differential_read s d e = by_test (ltb (length s) 92) refl e where
  by_test : (t : Bool) → ltb (length s) 92 ≡ t → differential_of (pick t One (Two (mills (number_at 4 s 88)))) ≡ Some d → InBytes 4 s 88 d.0
  by_test true l h = let z : ◌≡◌ {A = ℕ} 0 1 = cc in absurd (eqb-false 0 1 refl z)
  by_test false l h = (ltb-false (length s) 92 l, cc)

-- ---- the coded bytes, each in its list
pub record Listed (s : List ℕ) : Type 0 where
  pub opening : in_range 0 1 (get_or s 45 0) ≡ true
  pub expiry : in_range 0 1 (get_or s 46 0) ≡ true
  pub decided : in_range 0 1 (get_or s 47 0) ≡ true
  pub buyer : in_range 1 3 (get_or s 64 0) ≡ true
  pub seller : in_range 1 3 (get_or s 65 0) ≡ true
  pub day : in_range 0 2 (get_or s 66 0) ≡ true
  pub agreement : in_range 0 2 (get_or s 67 0) ≡ true

listed : (s : List ℕ) → lists_ok s ≡ true → Listed s
unfolding lists_ok
listed s e =
    let p7 = both_true _ (in_range 0 2 (get_or s 67 0)) e in
    let p6 = both_true _ (in_range 0 2 (get_or s 66 0)) p7.0 in
    let p5 = both_true _ (in_range 1 3 (get_or s 65 0)) p6.0 in
    let p4 = both_true _ (in_range 1 3 (get_or s 64 0)) p5.0 in
    let p3 = both_true _ (in_range 0 1 (get_or s 47 0)) p4.0 in
    let p2 = both_true _ (in_range 0 1 (get_or s 46 0)) p3.0 in
    let p1 = both_true (in_range 1 2 (get_or s 44 0)) (in_range 0 1 (get_or s 45 0)) p2.0 in
    record { opening = p1.1; expiry = p2.1; decided = p3.1; buyer = p4.1; seller = p5.1; day = p6.1; agreement = p7.1 }

-- ---- every place of a case that is at least 88 bytes long
module _ (s : List ℕ) (long : 88 ≤ length s) where
  has : (k : ℕ) → T (leb k 88) → k ≤ length s
  has k t = le_trans (leb→le k 88 t) long

  coded : {n : ℕ} (at : ℕ) → T (leb (at + 1) 88) → n ≡ get_or s at 0 → InBytes 1 s at n
  coded at t e = (has (at + 1) t, one_byte s at ∙ sym e)

  priced : (at : ℕ) → T (leb (at + 4) 88) → InBytes 4 s at (price_number (price_of (number_at 4 s at)))
  priced at t = (has (at + 4) t, sym (price_number_lem (number_at 4 s at)))

  spelled_from : Listed s → Spelled s (facts_of s)
  unfolding facts_of trade_of market_of request_of party_at settlement_of
  spelled_from l =
      record {
        price = (has 12 tt, refl);
        contracts = (has 16 tt, refl);
        executed = (has 20 tt, refl);
        bid = priced 20 tt;
        offer = priced 24 tt;
        bids = (has 32 tt, refl);
        offers = (has 36 tt, refl);
        official = priced 40 tt;
        opening = coded 45 tt (flag_number_lem (get_or s 45 0) l.opening);
        expiry = coded 46 tt (flag_number_lem (get_or s 46 0) l.expiry);
        decided = coded 47 tt (flag_number_lem (get_or s 47 0) l.decided);
        highest = priced 52 tt;
        lowest = priced 60 tt;
        buyer = coded 64 tt (kind_number_lem (get_or s 64 0) l.buyer);
        seller = coded 65 tt (kind_number_lem (get_or s 65 0) l.seller);
        day = coded 66 tt (day_number_lem (get_or s 66 0) l.day);
        agreement = coded 67 tt (agreement_number_lem (get_or s 67 0) l.agreement);
        agreed = priced 68 tt;
        filed = (has 76 tt, refl);
        made = (has 80 tt, refl);
        accepted = (has 84 tt, sym (moment_number_lem (number_at 4 s 80)));
        differential = differential_read s;
      }

pub facts_spelled : (s : List ℕ) → length_ok s ≡ true → lists_ok s ≡ true → Spelled s (facts_of s)
facts_spelled s ok e = spelled_from s (has_88 (length s) ok) (listed s e)
