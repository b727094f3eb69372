-- All the fields of a test are in order exactly where the test holds, test by test: of 2 in a case of a right length, of 8 and 9 where the tests
-- before them hold, which is where they are asked.
use Rattle.std.specs.Prelude.{Some, None}
use Prim.Native.Nat.{ℕ, ◌≤◌}
use mathlib.Core.Path.{◌≡◌, refl, sym, ap₂, ◌∙◌}
use mathlib.Core.Bool.{Bool, true, false, not, ◌&&◌, ◌||◌, and-true, and-false, or-true, or-false, and_assoc, and_comm, or_comm}
use mathlib.Core.List.{List, [], ◌∷◌}
use mathlib.Core.Logic.{⊎_elim}
use native.Mathlib.Omega.{arith}
use lib.ListN.{length, get_or}
use lib.Dec.{leb, ltb, eqb, leb-zero}
use borrow.Author.Tests.{leb-true, ltb-false, eqb-true, eqb-false, le-leb, ne_eqb}
use Rattle.wire.specs.Numbers.{number_at}
use Rattle.wire.specs.Tests.{pick, in_range}
use Rattle.wire.proofs.Tests.{both_true}
use Rattle.facts.specs.Numbers.{mills, contracts, seconds, price_of, moment_of}
use Rattle.facts.specs.Limits.{violates}
use Rattle.facts.specs.declared.Side.TheVariants.{Buy, Sell}
use Rattle.codes.specs.Codes.{day_of, agreement_of}
use Rattle.forms.specs.Heads.{pairs, is_length, known, size_in, kind_in}
use Rattle.forms.specs.Forms.{form_kind, form_of, differential_of}
use Rattle.forms.proofs.Heads.{lengths, form_one, form_two}
use Rattle.record.specs.Record.{trade_of, market_of, request_of, party_at, settlement_of, facts_of}
use Rattle.refusals.specs.Tests.{length_ok, head_ok, zeros_ok, lists_ok, coded_ok, code_byte_ok, code_ok, codes_ok, price_ok, quotes_priced, differential_ok, prices_ok, quote_ok, counts_ok, moment_ok, filed_ok, times_ok, limits_ok, agreement_ok}
use Rattle.blame.specs.Words.{Price, Some, None, Day, TradeDate, NextDay, Later, Agreement, NotMade, OnPrice, ToNullify, One, Two, FieldName, Measure, Because, Bounds, Field}
use Rattle.blame.specs.Fields.{field_ok, within, or_none, capped, case_length, head_length, head_kind, head_fields, zero_field, coded_field, coded_fields, letter_field, code_fields, money_field, differential_fields, price_fields, size_bounds, count_field, count_fields, filed_bounds, clock_field, lapse_field, time_fields, limit_field, limit_fields, agreed_bounds, made_bounds, terms_field, agreement_fields}
use Rattle.blame.proofs.Ranges.{not_below, exactly, nothing, up_to_lem, byte_number}

abbrev pub all_ok : List Field → Bool
all_ok [] = true
all_ok (f ∷ fs) = field_ok f && all_ok fs

-- ---- 1
same_length : (n k : ℕ) → k ≤ 100 → eqb (capped n) k ≡ eqb n k
unfolding capped
same_length n k small = by_test (ltb n 4294967295) refl where
  by_test : (t : Bool) → ltb n 4294967295 ≡ t → eqb (pick t n 4294967295) k ≡ eqb n k
  by_test true h = refl
  by_test false h = let l = ltb-false n 4294967295 h in ne_eqb 4294967295 k (λ e. omega arith) ∙ sym (ne_eqb n k (λ e. omega arith))

pub length_asked : (s : List ℕ) → field_ok (case_length s) ≡ length_ok s
unfolding field_ok case_length is_length pairs
length_asked s =
    simp (exactly, or-false) (ap₂ ◌||◌ (same_length (length s) 88 (omega arith)) (same_length (length s) 92 (omega arith)))

-- ---- 2: of a case that has the length of some kind
one_head : (size kind : ℕ) → (eqb size 88 && eqb kind 1) ≡ (known size kind && eqb size 88)
unfolding known pairs
one_head size kind = by_test (eqb size 88) refl where
  by_test : (t : Bool) → eqb size 88 ≡ t → (t && eqb kind 1) ≡ (((t && eqb kind 1) || ((eqb size 92 && eqb kind 2) || false)) && t)
  by_test true h = simp (eqb-true size 88 h, or-false, and-true)
  by_test false h = simp and-false

two_head : (size kind : ℕ) → (eqb size 92 && eqb kind 2) ≡ (known size kind && eqb size 92)
unfolding known pairs
two_head size kind = by_test (eqb size 92) refl where
  by_test : (t : Bool) → eqb size 92 ≡ t → (t && eqb kind 2) ≡ (((eqb size 88 && eqb kind 1) || ((t && eqb kind 2) || false)) && t)
  by_test true h = simp (eqb-true size 92 h, or-false, and-true)
  by_test false h = simp and-false

head_ok_lem : (s : List ℕ) → all_ok (head_fields s) ≡ (eqb (size_in s) (capped (length s)) && eqb (kind_in s) (form_kind (form_of s)))
unfolding field_ok head_length head_kind
head_ok_lem s = simp (exactly, nothing, or-false, and-true)

pub head_asked : (s : List ℕ) → length_ok s ≡ true → all_ok (head_fields s) ≡ head_ok s
unfolding head_ok capped
head_asked s long =
    head_ok_lem s
    ∙ ⊎_elim (λ e. simp (form_one s e, e) (one_head (size_in s) (kind_in s))) (λ e. simp (form_two s e, e) (two_head (size_in s) (kind_in s))) (lengths (length s) long)

-- ---- 3
zero_ok : (s : List ℕ) (at : ℕ) → field_ok (zero_field s at) ≡ eqb (number_at 4 s at) 0
unfolding field_ok zero_field
zero_ok s at = simp (exactly, nothing, or-false)

coded_ok_lem : (s : List ℕ) (name : FieldName) (at low high : ℕ) → field_ok (coded_field s name at low high) ≡ in_range low high (get_or s at 0)
unfolding field_ok coded_field
coded_ok_lem s name at low high = simp (nothing, or-false, ← byte_number s at)

zeros_first : (a b c d e f g h i z : Bool)
    → (a && (b && (c && (d && (e && (f && (g && (h && (i && (z && true)))))))))) ≡ ((a && z) && (b && c && d && e && f && g && h && i))
zeros_first a b c d e f g h i true = simp (and-true, and_assoc)
zeros_first a b c d e f g h i false = simp and-false

pub coded_asked : (s : List ℕ) → all_ok (coded_fields s) ≡ coded_ok s
unfolding zeros_ok lists_ok
coded_asked s =
    let listed : ℕ → ℕ → ℕ → Bool = λ low high at. in_range low high (get_or s at 0) in
    simp (zero_ok, coded_ok_lem)
    (zeros_first (eqb (number_at 4 s 36) 0)
    (listed 1 2 44) (listed 0 1 45) (listed 0 1 46) (listed 0 1 47) (listed 1 3 64) (listed 1 3 65) (listed 0 2 66) (listed 0 2 67)
    (eqb (number_at 4 s 84) 0))

-- ---- 4
letter_ok : (s : List ℕ) (name : FieldName) (at : ℕ) → field_ok (letter_field s name at) ≡ code_byte_ok (get_or s at 0)
unfolding field_ok letter_field code_byte_ok
letter_ok s name at = simp (← byte_number s at) (or_comm (in_range 48 57 (get_or s at 0)) (in_range 65 90 (get_or s at 0)))

pub codes_asked : (s : List ℕ) → all_ok (code_fields s) ≡ codes_ok (facts_of s).buyer (facts_of s).seller
unfolding codes_ok code_ok facts_of party_at
codes_asked s = simp (letter_ok, and-true, and_assoc)

-- ---- what bounds allow
unfoldable allows : Bounds → ℕ → Bool
allows b n = in_range b.low b.high n || in_range b.low2 b.high2 n

-- one range alone; or none besides
allows_range : (low high n : ℕ) → allows (within low high) n ≡ in_range low high n
unfolding allows
allows_range low high n = simp (nothing, or-false)

allows_none : (low high n : ℕ) → allows (or_none low high) n ≡ (in_range low high n || eqb n 4294967295)
unfolding allows
allows_none low high n = simp exactly

-- ---- 5
money_ok : (s : List ℕ) (name : FieldName) (at : ℕ) (b : Bounds) → field_ok (money_field s name at b) ≡ allows b (number_at 4 s at)
unfolding field_ok money_field allows
money_ok s name at b = refl

price_allowed : (n : ℕ) → allows (or_none 0 9999999) n ≡ price_ok (price_of n)
unfolding price_of
price_allowed n = simp (allows_none, up_to_lem) (by_test (eqb n 4294967295) refl) where
  by_test : (t : Bool) → eqb n 4294967295 ≡ t → (leb n 9999999 || t) ≡ price_ok (pick t None (Some (mills n)))
  by_test true h = or-true (leb n 9999999)
  by_test false h = or-false (leb n 9999999)

differential_ok_lem : (s : List ℕ) → all_ok (differential_fields (form_of s) s) ≡ differential_ok (differential_of (form_of s))
unfolding form_of
differential_ok_lem s = by_test (ltb (length s) 92) where
  by_test : (t : Bool)
      → all_ok (differential_fields (pick t One (Two (mills (number_at 4 s 88)))) s) ≡ differential_ok (differential_of (pick t One (Two (mills (number_at 4 s 88)))))
  by_test true = refl
  by_test false = simp (money_ok, allows_range, and-true)

pub prices_asked : (s : List ℕ) → all_ok (price_fields s) ≡ prices_ok (facts_of s)
unfolding prices_ok quotes_priced facts_of trade_of market_of party_at settlement_of
prices_asked s = simp (money_ok, allows_range, up_to_lem, price_allowed, differential_ok_lem, and_assoc)

-- ---- 6
count_ok : (s : List ℕ) (name : FieldName) (at : ℕ) (b : Bounds) (because : Because) → field_ok (count_field s name at b because) ≡ allows b (number_at 4 s at)
unfolding field_ok count_field allows
count_ok s name at b because = refl

size_allowed : (p : Price) (n : ℕ) → allows (size_bounds p) n ≡ quote_ok p (contracts n)
unfolding in_range
size_allowed (Some m) n = simp allows_range (by_test (eqb m.0 0)) where
  by_test : (t : Bool) → (leb (pick t 0 1) n && leb n 1000000) ≡ (leb n 1000000 && (t || leb 1 n))
  by_test true = simp (leb-zero n, and-true)
  by_test false = and_comm (leb 1 n) (leb n 1000000)
size_allowed None n = simp allows_range (exactly 0 n)

pub counts_asked : (s : List ℕ) → all_ok (count_fields s) ≡ counts_ok (facts_of s).trade (facts_of s).market
unfolding counts_ok in_range facts_of trade_of market_of
counts_asked s = simp (count_ok, size_allowed, allows_range, and-true, and_assoc)

-- ---- 7
clock_ok : (s : List ℕ) (name : FieldName) (at : ℕ) (b : Bounds) (because : Because) → field_ok (clock_field s name at b because) ≡ allows b (number_at 4 s at)
unfolding field_ok clock_field allows
clock_ok s name at b because = refl

lapse_ok : (s : List ℕ) (name : FieldName) (at : ℕ) (b : Bounds) → field_ok (lapse_field s name at b) ≡ allows b (number_at 4 s at)
unfolding field_ok lapse_field allows
lapse_ok s name at b = refl

moment_allowed : (n : ℕ) → allows (or_none 0 86400) n ≡ moment_ok (moment_of n)
unfolding moment_of
moment_allowed n = simp (allows_none, up_to_lem) (by_test (eqb n 4294967295) refl) where
  by_test : (t : Bool) → eqb n 4294967295 ≡ t → (leb n 86400 || t) ≡ moment_ok (pick t None (Some (seconds n)))
  by_test true h = or-true (leb n 86400)
  by_test false h = or-false (leb n 86400)

filed_allowed : (d : Day) (executed filed : ℕ)
    → allows (filed_bounds d executed) filed ≡ (leb filed 86399 && filed_ok d (seconds executed) (seconds filed))
unfolding in_range
filed_allowed TradeDate executed filed = simp allows_range (and_comm (leb executed filed) (leb filed 86399))
filed_allowed NextDay executed filed = simp (allows_range, leb-zero filed, and-true)
filed_allowed Later executed filed = simp (allows_range, leb-zero filed, and-true)

-- the record has the filing before the agreement, the page's test tells the day's condition last
day_last : (executed filed day made accepted : Bool)
    → (executed && ((filed && day) && (made && (accepted && true)))) ≡ (executed && filed && made && accepted && day)
day_last executed filed true made accepted = simp (and-true, and_assoc)
day_last executed filed false made accepted = simp and-false

pub times_asked : (s : List ℕ) → all_ok (time_fields s) ≡ times_ok (facts_of s).trade (facts_of s).request (facts_of s).settlement
unfolding times_ok facts_of trade_of request_of settlement_of
times_asked s =
    simp (clock_ok, lapse_ok, filed_allowed, moment_allowed, allows_range, up_to_lem)
    (day_last (leb (number_at 4 s 16) 86399)
    (leb (number_at 4 s 72) 86399)
    (filed_ok (day_of (get_or s 66 0)) (seconds (number_at 4 s 16)) (seconds (number_at 4 s 72)))
    (leb (number_at 4 s 76) 86400)
    (moment_ok (moment_of (number_at 4 s 80))))

-- ---- what the tests 5 and 7 leave of the numbers that 8 and 9 ask: none is above the mark "none"
price_most : (n : ℕ) → price_ok (price_of n) ≡ true → n ≤ 4294967295
unfolding price_of
price_most n h = by_test (eqb n 4294967295) refl h where
  by_test : (t : Bool) → eqb n 4294967295 ≡ t → price_ok (pick t None (Some (mills n))) ≡ true → n ≤ 4294967295
  by_test true e k = let i = eqb-true n 4294967295 e in omega arith
  by_test false e k = let i = leb-true n 9999999 k in omega arith

third_and_fifth : (a b c d e f : Bool) → (a && b && c && d && e && f) ≡ true → (c ≡ true) × (e ≡ true)
third_and_fifth a b c d e f h =
    let five = both_true (a && b && c && d) e (both_true (a && b && c && d && e) f h).0 in
    ((both_true (a && b) c (both_true (a && b && c) d five.0).0).1, five.1)

third : (a b c d e : Bool) → (a && b && c && d && e) ≡ true → c ≡ true
third a b c d e h = (both_true (a && b) c (both_true (a && b && c) d (both_true (a && b && c && d) e h).0).0).1

prices_most : (s : List ℕ) → prices_ok (facts_of s) ≡ true → (number_at 4 s 52 ≤ 4294967295) × (number_at 4 s 68 ≤ 4294967295)
unfolding prices_ok facts_of trade_of party_at settlement_of
prices_most s h =
    let price : ℕ → Bool = λ at. price_ok (price_of (number_at 4 s at)) in
    let both = third_and_fifth (leb (number_at 4 s 8) 9999999) (quotes_priced (market_of s)) (price 52) (price 60) (price 68) (differential_ok (differential_of (form_of s))) h in
    (price_most (number_at 4 s 52) both.0, price_most (number_at 4 s 68) both.1)

made_most : (s : List ℕ) → times_ok (facts_of s).trade (facts_of s).request (facts_of s).settlement ≡ true → number_at 4 s 76 ≤ 4294967295
unfolding times_ok facts_of trade_of request_of settlement_of
made_most s h =
    let day = filed_ok (day_of (get_or s 66 0)) (seconds (number_at 4 s 16)) (seconds (number_at 4 s 72)) in
    let made = third (leb (number_at 4 s 16) 86399) (leb (number_at 4 s 72) 86399) (leb (number_at 4 s 76) 86400) (moment_ok (moment_of (number_at 4 s 80))) day h in
    omega (arith, leb-true (number_at 4 s 76) 86400 made)

-- ---- 8
limit_ok : (s : List ℕ) (name : FieldName) (at : ℕ) (b : Bounds) → field_ok (limit_field s name at b) ≡ allows b (number_at 4 s at)
unfolding field_ok limit_field allows
limit_ok s name at b = refl

from_price : (limit price : ℕ) → leb limit 4294967294 ≡ true → in_range price 4294967294 limit ≡ leb price limit
unfolding in_range
from_price limit price h = simp (h, and-true)

highest_allowed : (limit price : ℕ) → limit ≤ 4294967295 → allows (or_none price 4294967294) limit ≡ not (violates Buy (price_of limit) (mills price))
unfolding price_of
highest_allowed limit price most = simp allows_none (by_test (eqb limit 4294967295) refl) where
  by_test : (t : Bool) → eqb limit 4294967295 ≡ t → (in_range price 4294967294 limit || t) ≡ not (violates Buy (pick t None (Some (mills limit))) (mills price))
  by_test true h = or-true (in_range price 4294967294 limit)
  by_test false h =
      let n = eqb-false limit 4294967295 h in
      or-false (in_range price 4294967294 limit) ∙ from_price limit price (le-leb limit 4294967294 (omega arith)) ∙ sym (not_below limit price)

lowest_allowed : (limit price : ℕ) → allows (or_none 0 price) limit ≡ not (violates Sell (price_of limit) (mills price))
unfolding price_of
lowest_allowed limit price = simp (allows_none, up_to_lem) (by_test (eqb limit 4294967295) refl) where
  by_test : (t : Bool) → eqb limit 4294967295 ≡ t → (leb limit price || t) ≡ not (violates Sell (pick t None (Some (mills limit))) (mills price))
  by_test true h = or-true (leb limit price)
  by_test false h = or-false (leb limit price) ∙ sym (not_below price limit)

pub limits_asked : (s : List ℕ) → prices_ok (facts_of s) ≡ true
    → all_ok (limit_fields s) ≡ limits_ok (facts_of s).trade (facts_of s).buyer (facts_of s).seller
unfolding limits_ok facts_of trade_of party_at
limits_asked s priced =
    simp (limit_ok, and-true)
    (ap₂ ◌&&◌ (highest_allowed (number_at 4 s 52) (number_at 4 s 8) (prices_most s priced).0) (lowest_allowed (number_at 4 s 60) (number_at 4 s 8)))

-- ---- 9
terms_ok : (s : List ℕ) (name : FieldName) (unit : Measure) (at : ℕ) (b : Bounds) → field_ok (terms_field s name unit at b) ≡ allows b (number_at 4 s at)
unfolding field_ok terms_field allows
terms_ok s name unit at b = refl

terms_allowed : (a : Agreement) (agreed made : ℕ) → agreed ≤ 4294967295 → made ≤ 4294967295
    → (allows (agreed_bounds a) agreed && allows (made_bounds a) made) ≡ agreement_ok a (price_of agreed) (seconds made)
unfolding price_of
terms_allowed NotMade agreed made p q = simp (allows_range, exactly) (by_test (eqb agreed 4294967295)) where
  by_test : (t : Bool) → (t && eqb made 0) ≡ agreement_ok NotMade (pick t None (Some (mills agreed))) (seconds made)
  by_test true = refl
  by_test false = refl
terms_allowed OnPrice agreed made p q = simp (allows_range, up_to_lem, le-leb made 4294967295 q, and-true) (by_test (eqb agreed 4294967295) refl) where
  by_test : (t : Bool) → eqb agreed 4294967295 ≡ t → leb agreed 4294967294 ≡ agreement_ok OnPrice (pick t None (Some (mills agreed))) (seconds made)
  by_test true h = simp (eqb-true agreed 4294967295 h)
  by_test false h = let n = eqb-false agreed 4294967295 h in le-leb agreed 4294967294 (omega arith)
terms_allowed ToNullify agreed made p q = simp (allows_range, exactly, up_to_lem, le-leb made 4294967295 q, and-true) (by_test (eqb agreed 4294967295)) where
  by_test : (t : Bool) → t ≡ agreement_ok ToNullify (pick t None (Some (mills agreed))) (seconds made)
  by_test true = refl
  by_test false = refl

pub agreement_asked : (s : List ℕ) → prices_ok (facts_of s) ≡ true → times_ok (facts_of s).trade (facts_of s).request (facts_of s).settlement ≡ true
    → all_ok (agreement_fields s) ≡ agreement_ok (facts_of s).settlement.agreement (facts_of s).settlement.agreed (facts_of s).settlement.made
unfolding facts_of settlement_of
agreement_asked s priced timed =
    simp (terms_ok, and-true)
    (terms_allowed (agreement_of (get_or s 67 0)) (number_at 4 s 68) (number_at 4 s 76) (prices_most s priced).1 (made_most s timed))
