-- A lookup with the number of quotes before the trade, and how many quotes were read (RULE R3.28, R16.20 to R16.23, R16.25; R16.13 and R16.14 of calls):
-- demands 1 and 2 of it. What is found is what the quotes alone decide (Quotes). First of the definitions, then, as "so every call", of what the
-- promises of the functions allow. `desk_best_quotes` tells in numbers what `find_best` answers: what of its answer has no form in numbers (that it is
-- the best, that it passes the tests) is said of `find_best`, and `desk_best_quotes_found` carries it over.
use Rattle.std.specs.Prelude.{ℕ, ◌≤◌, ◌≡◌, refl, Bool, true, ◌⊎◌, List, ◌++◌, eqb, length}
use Rattle.std.proofs.Common.{sym, ◌∙◌, ⊎_elim, arith}
use Rattle.std.proofs.Math.Path.{ap}
use contract.Lifetimes.{Lfts}
use Rattle.std.specs.Borrow.{Bor}
use Rattle.facts.specs.Numbers.{price_number}
use Rattle.quotes.specs.declared.Posted.{Posted}
use Rattle.quotes.specs.Quotes.{posted_in, quotes_refusal_of}
use Rattle.earlier.specs.Earlier.{earlier, count_of, number_ok, quotes_before_of}
use Rattle.earlier.proofs as numbers
use Rattle.best.specs.declared.Found.{Found}
use Rattle.best.specs.declared.Looked.{Looked}
use Rattle.best.specs.Lasts.{lasts}
use Rattle.best.specs.Examined.{all_known, examined_in}
use Rattle.best.specs.Found.{found_of}
use Rattle.best.specs.Looked.{look_tests, look_refusal_of, looked_in, unread, looked_of}
use Rattle.best.proofs as best
use Rattle.desk.specs.declared.DeskBest.{DeskBest}
use Rattle.desk.specs.Desk.{desk_best}
use Rattle.desk.proofs as desk
use Rattle.lookups.specs.Lookups.{Passes, AllLate, Whole, StopsAt}
use Rattle.lookups.proofs as lookups
use Rattle.demands.specs.Ends.{quote_numbers, look_numbers, Told}
use Rattle.demands.specs.Quotes.{Best, ChangesNothing, lookup_told, found_is_best, found_passes, same_found, only_the_last}
use Rattle.demands.specs.Why as why

-- ---- demand 1: nothing is asked; any bytes, any time and any number get a result, or one of 20 to 23 and 28 beside none, none and a count of 0
pub nothing_asked : (κ : Lfts 1) (s : Bor (List ℕ)) (t n : ℕ)
    → numbers.quotes_before.Reads.Asked κ (s, (t, tt))
    × best.find_best.Reads.Asked κ (s, (t, (n, tt)))
    × best.count_and_find.Reads.Asked κ (s, (t, tt))
    × desk.desk_quotes_before.Reads.Asked κ (s, (t, tt))
    × desk.desk_best_quotes.Reads.Asked κ (s, (t, (n, tt)))
nothing_asked κ s t n = (tt, tt, tt, tt, tt)

module _ (s : List ℕ) (t n : ℕ) where
  pub look_told : Told look_numbers (looked_of s t n).found.refusal
  unfolding look_refusal_of
  look_told = rw (lookups.Counted.looked_number s t n) (why.told (look_tests s t n))

  pub refused_unread : ((looked_of s t n).found.refusal ≡ 0 → ⊥) → looked_of s t n ≡ unread (looked_of s t n).found.refusal
  refused_unread = lookups.Counted.refused_unread s t n

  -- ---- demand 2

  -- 28 comes after 20 to 23: what the quotes and the time fail is told first; where they fail nothing, another number than that of the quotes strictly
  -- before the trade is 28, and that number is never refused.
  pub quotes_first : (quotes_refusal_of s t ≡ 0 → ⊥) → looked_of s t n ≡ unread (quotes_refusal_of s t)
  quotes_first = lookups.Counted.quotes_first s t n

  pub wrong_number : quotes_refusal_of s t ≡ 0 → (n ≡ count_of s t → ⊥) → looked_of s t n ≡ unread 28
  wrong_number = lookups.Counted.wrong_number s t n

  pub right_number : quotes_refusal_of s t ≡ 0 → n ≡ count_of s t → looked_of s t n ≡ looked_in (earlier t (posted_in s))
  right_number = lookups.Counted.right_number s t n

  pub right_accepted : quotes_refusal_of s t ≡ 0 → n ≡ count_of s t → (looked_of s t n).found.refusal ≡ 0
  right_accepted good right = ap (λ (l : Looked). l.found.refusal) (right_number good right) ∙ lookups.Counted.in_refusal (earlier t (posted_in s))

  -- What is found is what the quotes alone decide, whoever counted them, but where the number is refused; so too where nothing is, and then it is the
  -- best.
  pub but_for_28 : ((looked_of s t n).found.refusal ≡ 28 → ⊥) → (looked_of s t n).found ≡ found_of s t
  but_for_28 = lookups.Counted.but_for_28 s t n

  pub looked_found : (looked_of s t n).found.refusal ≡ 0 → (looked_of s t n).found ≡ found_of s t
  looked_found = lookups.Counted.looked_found s t n

  pub looked_is_best : (looked_of s t n).found.refusal ≡ 0 → Best s t (looked_of s t n).found
  looked_is_best good = let same = looked_found good in rw same (found_is_best s t (ap (λ (f : Found). f.refusal) (sym same) ∙ good))

  -- The count is the definition's.
  pub looked_count : (looked_of s t n).found.refusal ≡ 0 → (looked_of s t n).examined ≡ examined_in (earlier t (posted_in s))
  unfolding looked_in
  looked_count good = ap (λ (l : Looked). l.examined) (lookups.Counted.looked_good s t n good)

  -- It is at most the quotes before the trade, and at most the number that was brought, refused or not; so with nothing before the trade it is 0.
  pub looked_most : ((looked_of s t n).examined ≤ count_of s t) × ((looked_of s t n).examined ≤ n)
  looked_most = (best.Own.looked_most s t n, lookups.Counted.read_most s t n)

  pub nothing_read : count_of s t ≡ 0 → (looked_of s t n).examined ≡ 0
  nothing_read none = omega (arith, looked_most)

  -- What is found passes the tests 5 and 6, refused or not.
  pub looked_passes : Passes (looked_of s t n).found
  looked_passes = lookups.Counted.looked_passes s t n

-- The definition's count is the request's: it is no more than all quotes of the list; and walking back over them, fewer than so many do not make all
-- sixteen known, and so many do, or they are all. No other number is so.
abbrev pub Stops : List Posted → ℕ → Type 0
Stops qs n = (n ≤ length qs) × ((ps rs : List Posted) → qs ≡ ps ++ rs → StopsAt ps rs n)

pub count_stops : (qs : List Posted) → Stops qs (examined_in qs)
count_stops qs = (best.Own.examined_most qs, λ ps rs is. rw is (lookups.Walk.stops ps rs))

pub only_stop : (qs : List Posted) (n : ℕ) → Stops qs n → n ≡ examined_in qs
only_stop qs n stop = lookups.Walk.only_stop qs n stop.0 stop.1

-- ---- the number itself: it is right wherever the quotes and the time are not refused, so with it a lookup answers what they alone decide
pub own_number : (s : List ℕ) (t : ℕ) → quotes_refusal_of s t ≡ 0 → quotes_before_of s t ≡ count_of s t
own_number s t good = sym (numbers.Number.before_count s t good)

pub own_none : (s : List ℕ) (t : ℕ) → (quotes_refusal_of s t ≡ 0 → ⊥) → quotes_before_of s t ≡ 0
own_none s t bad = sym (numbers.Number.before_none s t (quotes_refusal_of s t) refl bad)

pub own_found : (s : List ℕ) (t : ℕ) → (looked_of s t (quotes_before_of s t)).found ≡ found_of s t
own_found = best.Own.own_found

-- ---- so every call of `find_best`
module _ (κ : Lfts 1) (s s' : Bor (List ℕ)) (t t' n n' : ℕ) (r : Looked) (p : best.find_best.Reads.Post κ (s, (t, (n, tt))) r (s', (t', (n', tt)))) where
  pub find_best_says : r ≡ looked_of s.now t n
  find_best_says = p

  pub find_best_ends : Told look_numbers r.found.refusal
  find_best_ends = rw p (look_told s.now t n)

  pub find_best_refused : (r.found.refusal ≡ 0 → ⊥) → r ≡ unread r.found.refusal
  find_best_refused = rw p (refused_unread s.now t n)

  pub find_best_first : (quotes_refusal_of s.now t ≡ 0 → ⊥) → r ≡ unread (quotes_refusal_of s.now t)
  find_best_first bad = p ∙ quotes_first s.now t n bad

  pub find_best_wrong : quotes_refusal_of s.now t ≡ 0 → (n ≡ count_of s.now t → ⊥) → r ≡ unread 28
  find_best_wrong good other = p ∙ wrong_number s.now t n good other

  pub find_best_right : quotes_refusal_of s.now t ≡ 0 → n ≡ count_of s.now t → r ≡ looked_in (earlier t (posted_in s.now))
  find_best_right good right = p ∙ right_number s.now t n good right

  pub find_best_found : r.found.refusal ≡ 0 → r.found ≡ found_of s.now t
  find_best_found = rw p (looked_found s.now t n)

  pub find_best_is_best : r.found.refusal ≡ 0 → Best s.now t r.found
  find_best_is_best = rw p (looked_is_best s.now t n)

  pub find_best_counts : r.found.refusal ≡ 0 → r.examined ≡ examined_in (earlier t (posted_in s.now))
  find_best_counts = rw p (looked_count s.now t n)

  pub find_best_most : (r.examined ≤ count_of s.now t) × (r.examined ≤ n)
  find_best_most = rw p (looked_most s.now t n)

  pub find_best_passes : Passes r.found
  find_best_passes = rw p (looked_passes s.now t n)

-- So every call of `desk_best_quotes`, in numbers: beside a refusal none, none, 0, 0 and 0.
module _ (κ : Lfts 1) (s s' : Bor (List ℕ)) (t t' n n' : ℕ) (r : DeskBest) (p : desk.desk_best_quotes.Reads.Post κ (s, (t, (n, tt))) r (s', (t', (n', tt)))) where
  pub desk_best_quotes_says : r ≡ desk_best (looked_of s.now t n)
  desk_best_quotes_says = p

  pub desk_best_quotes_ends : Told look_numbers r.refusal
  desk_best_quotes_ends = rw p (look_told s.now t n)

  pub desk_best_quotes_refused : (r.refusal ≡ 0 → ⊥)
      → r ≡ record { refusal = r.refusal; bid = 4294967295; offer = 4294967295; bid_size = 0; offer_size = 0; examined = 0 }
  desk_best_quotes_refused = rw p (λ some. ap desk_best (refused_unread s.now t n some))

  pub desk_best_quotes_first : (quotes_refusal_of s.now t ≡ 0 → ⊥) → r ≡ desk_best (unread (quotes_refusal_of s.now t))
  desk_best_quotes_first bad = p ∙ ap desk_best (quotes_first s.now t n bad)

  pub desk_best_quotes_wrong : quotes_refusal_of s.now t ≡ 0 → (n ≡ count_of s.now t → ⊥) → r ≡ desk_best (unread 28)
  desk_best_quotes_wrong good other = p ∙ ap desk_best (wrong_number s.now t n good other)

  pub desk_best_quotes_right : quotes_refusal_of s.now t ≡ 0 → n ≡ count_of s.now t → r ≡ desk_best (looked_in (earlier t (posted_in s.now)))
  desk_best_quotes_right good right = p ∙ ap desk_best (right_number s.now t n good right)

  pub desk_best_quotes_found : r.refusal ≡ 0 → r ≡ desk_best (record { found = found_of s.now t; examined = r.examined })
  desk_best_quotes_found = rw p (λ good. ap (λ (f : Found). desk_best (record { found = f; examined = (looked_of s.now t n).examined })) (looked_found s.now t n good))

  pub desk_best_quotes_counts : r.refusal ≡ 0 → r.examined ≡ examined_in (earlier t (posted_in s.now))
  desk_best_quotes_counts = rw p (looked_count s.now t n)

  pub desk_best_quotes_most : (r.examined ≤ count_of s.now t) × (r.examined ≤ n)
  desk_best_quotes_most = rw p (looked_most s.now t n)

-- So every call of `count_and_find`: 28 is never its number, and what it finds is what the quotes alone decide.
module _ (κ : Lfts 1) (s s' : Bor (List ℕ)) (t t' : ℕ) (r : Looked) (p : best.count_and_find.Reads.Post κ (s, (t, tt)) r (s', (t', tt))) where
  pub count_and_find_says : r ≡ looked_of s.now t (quotes_before_of s.now t)
  count_and_find_says = p

  pub count_and_find_found : r.found ≡ found_of s.now t
  count_and_find_found = rw p (own_found s.now t)

  pub count_and_find_ends : Told quote_numbers r.found.refusal
  count_and_find_ends = rw count_and_find_found (lookup_told s.now t)

  pub count_and_find_refused : (r.found.refusal ≡ 0 → ⊥) → r ≡ unread r.found.refusal
  count_and_find_refused = rw p (refused_unread s.now t (quotes_before_of s.now t))

  pub count_and_find_is_best : r.found.refusal ≡ 0 → Best s.now t r.found
  count_and_find_is_best = rw p (looked_is_best s.now t (quotes_before_of s.now t))

  pub count_and_find_passes : Passes r.found
  count_and_find_passes = rw count_and_find_found (found_passes s.now t)

  pub count_and_find_counts : r.found.refusal ≡ 0 → r.examined ≡ examined_in (earlier t (posted_in s.now))
  count_and_find_counts = rw p (looked_count s.now t (quotes_before_of s.now t))

  pub count_and_find_most : r.examined ≤ count_of s.now t
  count_and_find_most = rw p (looked_most s.now t (quotes_before_of s.now t)).0

-- `quotes_before`, and then `find_best` with its answer on the same quotes at the same time: what `count_and_find` answers, and never 28; and the same
-- for other programs.
pub before_then_find : (κ κ' : Lfts 1) (s s' u u' : Bor (List ℕ)) (t t' t'' n n' : ℕ) (r : Looked) → u.now ≡ s.now
    → numbers.quotes_before.Reads.Post κ (s, (t, tt)) n (s', (t', tt)) → best.find_best.Reads.Post κ' (u, (t, (n, tt))) r (u', (t'', (n', tt)))
    → (r ≡ looked_of s.now t (quotes_before_of s.now t)) × Told quote_numbers r.found.refusal
before_then_find κ κ' s s' u u' t t' t'' n n' r same p q =
    let is : r ≡ looked_of s.now t (quotes_before_of s.now t) = q ∙ rw (p, same) in
    (is, rw (is, own_found s.now t) (lookup_told s.now t))

pub desk_before_then_find : (κ κ' : Lfts 1) (s s' u u' : Bor (List ℕ)) (t t' t'' n n' : ℕ) (r : DeskBest) → u.now ≡ s.now
    → desk.desk_quotes_before.Reads.Post κ (s, (t, tt)) n (s', (t', tt)) → desk.desk_best_quotes.Reads.Post κ' (u, (t, (n, tt))) r (u', (t'', (n', tt)))
    → (r ≡ desk_best (looked_of s.now t (quotes_before_of s.now t))) × Told quote_numbers r.refusal
desk_before_then_find κ κ' s s' u u' t t' t'' n n' r same p q =
    let is : r ≡ desk_best (looked_of s.now t (quotes_before_of s.now t)) = q ∙ rw (p, same) in
    (is, rw (is, own_found s.now t) (lookup_told s.now t))

-- So every call of `quotes_before` and `desk_quotes_before`: the number, or 0 where the quotes or the time are refused; and `count_before` and
-- `number_ok`, which ask for quotes in time order.
abbrev pub Numbered : List ℕ → ℕ → ℕ → Type 0
Numbered s t n = (n ≡ quotes_before_of s t) × (quotes_refusal_of s t ≡ 0 → n ≡ count_of s t) × ((quotes_refusal_of s t ≡ 0 → ⊥) → n ≡ 0)

module _ (κ : Lfts 1) (s s' : Bor (List ℕ)) (t t' n : ℕ) where
  pub quotes_before_says : numbers.quotes_before.Reads.Post κ (s, (t, tt)) n (s', (t', tt)) → Numbered s.now t n
  quotes_before_says p = (p, λ good. p ∙ own_number s.now t good, λ bad. p ∙ own_none s.now t bad)

  pub desk_quotes_before_says : desk.desk_quotes_before.Reads.Post κ (s, (t, tt)) n (s', (t', tt)) → Numbered s.now t n
  desk_quotes_before_says p = (p, λ good. p ∙ own_number s.now t good, λ bad. p ∙ own_none s.now t bad)

  pub number_ok_says : (m m' : ℕ) (r : Bool) → numbers.number_ok.Reads.Post κ (s, (t, (m, tt))) r (s', (t', (m', tt))) → r ≡ eqb m (count_of s.now t)
  unfolding number_ok
  number_ok_says m m' r p = p

  pub count_before_says : numbers.count_before.Reads.Post κ (s, (t, tt)) n (s', (t', tt)) → n ≡ count_of s.now t
  count_before_says p = p

-- ---- quotes that change nothing

-- Quotes before the one where the walk stops, in a list that is not refused: records a before the records b, where the count is at most the quotes of b
-- before the trade, so that the walk does not get to a; or where all sixteen are known in b.
module _ (a b : List ℕ) (t n : ℕ) (wa : Whole a) (good : (looked_of (a ++ b) t n).found.refusal ≡ 0) where
  pub not_reached : (looked_of (a ++ b) t n).examined ≤ count_of b t → looked_of (a ++ b) t n ≡ looked_of b t (count_of b t)
  not_reached few = lookups.Counted.not_reached_bytes a b t n wa good few ∙ ap (looked_of b t) (own_number b t (lookups.Counted.rest_good a b t n wa good))

  pub all_known_lem : all_known (lasts (earlier t (posted_in b))) ≡ true → looked_of (a ++ b) t n ≡ looked_of b t (count_of b t)
  all_known_lem h = lookups.Counted.all_known_bytes a b t n wa good h ∙ ap (looked_of b t) (own_number b t (lookups.Counted.rest_good a b t n wa good))

-- So every two calls, one with the records a and one without them, each with its right number: the same prices, sizes and count. `Few` is either premise.
abbrev pub Few : ℕ → List ℕ → ℕ → Type 0
Few examined b t = (examined ≤ count_of b t) ⊎ (all_known (lasts (earlier t (posted_in b))) ≡ true)

either_way : (a b : List ℕ) (t n : ℕ) → Whole a → (looked_of (a ++ b) t n).found.refusal ≡ 0 → Few (looked_of (a ++ b) t n).examined b t
    → looked_of (a ++ b) t n ≡ looked_of b t (count_of b t)
either_way a b t n wa good = ⊎_elim (not_reached a b t n wa good) (all_known_lem a b t n wa good)

module _ (κ κ' : Lfts 1) (a b : List ℕ) (s s' u u' : Bor (List ℕ)) (t t' t'' n n' m' : ℕ) (wa : Whole a) (long : s.now ≡ a ++ b) (short : u.now ≡ b) where
  pub find_best_not_reached : (x y : Looked) → best.find_best.Reads.Post κ (s, (t, (n, tt))) x (s', (t', (n', tt))) → x.found.refusal ≡ 0 → Few x.examined b t
      → best.find_best.Reads.Post κ' (u, (t, (count_of b t, tt))) y (u', (t'', (m', tt))) → x ≡ y
  find_best_not_reached x y p good few q =
      let is : x ≡ looked_of (a ++ b) t n = p ∙ ap (λ (l : List ℕ). looked_of l t n) long in
      is ∙ either_way a b t n wa (rw is at good) (rw is at few) ∙ sym (q ∙ ap (λ (l : List ℕ). looked_of l t (count_of b t)) short)

  pub desk_best_quotes_not_reached : (x y : DeskBest) → desk.desk_best_quotes.Reads.Post κ (s, (t, (n, tt))) x (s', (t', (n', tt))) → x.refusal ≡ 0 → Few x.examined b t
      → desk.desk_best_quotes.Reads.Post κ' (u, (t, (count_of b t, tt))) y (u', (t'', (m', tt))) → x ≡ y
  desk_best_quotes_not_reached x y p good few q =
      let is : x ≡ desk_best (looked_of (a ++ b) t n) = p ∙ ap (λ (l : List ℕ). desk_best (looked_of l t n)) long in
      is ∙ ap desk_best (either_way a b t n wa (rw is at good) (rw is at few)) ∙ sym (q ∙ ap (λ (l : List ℕ). desk_best (looked_of l t (count_of b t))) short)

-- The same of two calls of `count_and_find`.
pub count_and_find_not_reached : (κ κ' : Lfts 1) (a b : List ℕ) (s s' u u' : Bor (List ℕ)) (t t' t'' : ℕ) (x y : Looked) → Whole a → s.now ≡ a ++ b → u.now ≡ b
    → best.count_and_find.Reads.Post κ (s, (t, tt)) x (s', (t', tt)) → x.found.refusal ≡ 0 → Few x.examined b t
    → best.count_and_find.Reads.Post κ' (u, (t, tt)) y (u', (t'', tt)) → x ≡ y
count_and_find_not_reached κ κ' a b s s' u u' t t' t'' x y wa long short p good few q =
    let n = quotes_before_of (a ++ b) t in
    let is : x ≡ looked_of (a ++ b) t n = p ∙ ap (λ (l : List ℕ). looked_of l t (quotes_before_of l t)) long in
    let same = either_way a b t n wa (rw is at good) (rw is at few) in
    let own = ap (looked_of b t) (own_number b t (lookups.Counted.rest_good a b t n wa (rw is at good))) in
    is ∙ same ∙ sym (q ∙ ap (λ (l : List ℕ). looked_of l t (quotes_before_of l t)) short ∙ own)

-- A quote at the second of the trade or later, in a list that is not refused, changes nothing, nor the number; so every two calls with one number.
module _ (a r b : List ℕ) (t n : ℕ) (wa : Whole a) (wr : Whole r) (good : (looked_of (a ++ (r ++ b)) t n).found.refusal ≡ 0) (late : AllLate t (posted_in r)) where
  pub late_looked : looked_of (a ++ (r ++ b)) t n ≡ looked_of (a ++ b) t n
  late_looked = lookups.Counted.late_looked a r b t n wa wr good late

  equal : (s u : List ℕ) → s ≡ a ++ (r ++ b) → u ≡ a ++ b → looked_of s t n ≡ looked_of u t n
  equal s u long short = ap (λ (l : List ℕ). looked_of l t n) long ∙ late_looked ∙ sym (ap (λ (l : List ℕ). looked_of l t n) short)

  pub find_best_late : (κ κ' : Lfts 1) (s s' u u' : Bor (List ℕ)) (t' t'' n' m' : ℕ) (x y : Looked) → s.now ≡ a ++ (r ++ b) → u.now ≡ a ++ b
      → best.find_best.Reads.Post κ (s, (t, (n, tt))) x (s', (t', (n', tt))) → best.find_best.Reads.Post κ' (u, (t, (n, tt))) y (u', (t'', (m', tt))) → x ≡ y
  find_best_late κ κ' s s' u u' t' t'' n' m' x y long short p q = p ∙ equal s.now u.now long short ∙ sym q

  pub desk_best_quotes_late : (κ κ' : Lfts 1) (s s' u u' : Bor (List ℕ)) (t' t'' n' m' : ℕ) (x y : DeskBest) → s.now ≡ a ++ (r ++ b) → u.now ≡ a ++ b
      → desk.desk_best_quotes.Reads.Post κ (s, (t, (n, tt))) x (s', (t', (n', tt))) → desk.desk_best_quotes.Reads.Post κ' (u, (t, (n, tt))) y (u', (t'', (m', tt))) → x ≡ y
  desk_best_quotes_late κ κ' s s' u u' t' t'' n' m' x y long short p q = p ∙ ap desk_best (equal s.now u.now long short) ∙ sym q

-- A quote that another of its exchange overtakes before the trade may be read, and it is one more before the trade, but nothing else is found: the list
-- without it is not refused either, and its own number finds the same.
pub same_accepted : (a r b : List ℕ) (t n : ℕ) → Whole a → Whole r → (looked_of (a ++ (r ++ b)) t n).found.refusal ≡ 0 → ChangesNothing a r b t
    → (looked_of (a ++ b) t (quotes_before_of (a ++ b) t)).found ≡ (looked_of (a ++ (r ++ b)) t n).found
same_accepted a r b t n wa wr good nothing =
    let long = looked_found (a ++ (r ++ b)) t n good in
    own_found (a ++ b) t ∙ sym (long ∙ same_found a r b t wa wr (ap (λ (f : Found). f.refusal) (sym long) ∙ good) nothing)

-- So every two calls, one with such records and one without them, that are not refused.
pub find_best_same : (a r b : List ℕ) (κ κ' : Lfts 1) (s s' u u' : Bor (List ℕ)) (t t' t'' n n' m m' : ℕ) (x y : Looked) → Whole a → Whole r
    → s.now ≡ a ++ (r ++ b) → u.now ≡ a ++ b → ChangesNothing a r b t
    → best.find_best.Reads.Post κ (s, (t, (n, tt))) x (s', (t', (n', tt))) → best.find_best.Reads.Post κ' (u, (t, (m, tt))) y (u', (t'', (m', tt)))
    → x.found.refusal ≡ 0 → y.found.refusal ≡ 0 → x.found ≡ y.found
find_best_same a r b κ κ' s s' u u' t t' t'' n n' m m' x y wa wr long short nothing p q gx gy =
    let fx : x.found ≡ found_of (a ++ (r ++ b)) t = find_best_found κ s s' t t' n n' x p gx ∙ ap (λ (l : List ℕ). found_of l t) long in
    let fy : y.found ≡ found_of (a ++ b) t = find_best_found κ' u u' t t'' m m' y q gy ∙ ap (λ (l : List ℕ). found_of l t) short in
    fx ∙ same_found a r b t wa wr (ap (λ (f : Found). f.refusal) (sym fx) ∙ gx) nothing ∙ sym fy

-- With `count_and_find` nothing is asked of the second.
pub count_and_find_same : (a r b : List ℕ) (κ κ' : Lfts 1) (s s' u u' : Bor (List ℕ)) (t t' t'' : ℕ) (x y : Looked) → Whole a → Whole r
    → s.now ≡ a ++ (r ++ b) → u.now ≡ a ++ b → ChangesNothing a r b t
    → best.count_and_find.Reads.Post κ (s, (t, tt)) x (s', (t', tt)) → best.count_and_find.Reads.Post κ' (u, (t, tt)) y (u', (t'', tt))
    → x.found.refusal ≡ 0 → x.found ≡ y.found
count_and_find_same a r b κ κ' s s' u u' t t' t'' x y wa wr long short nothing p q gx =
    let fx : x.found ≡ found_of (a ++ (r ++ b)) t = count_and_find_found κ s s' t t' x p ∙ ap (λ (l : List ℕ). found_of l t) long in
    let fy : y.found ≡ found_of (a ++ b) t = count_and_find_found κ' u u' t t'' y q ∙ ap (λ (l : List ℕ). found_of l t) short in
    fx ∙ same_found a r b t wa wr (ap (λ (f : Found). f.refusal) (sym fx) ∙ gx) nothing ∙ sym fy

-- Two lists in which each of the sixteen exchanges last sent the same before the trade: every two calls that are not refused find the same.
pub find_best_alike : (κ κ' : Lfts 1) (s s' u u' : Bor (List ℕ)) (t t' t'' n n' m m' : ℕ) (x y : Looked)
    → lasts (earlier t (posted_in s.now)) ≡ lasts (earlier t (posted_in u.now))
    → best.find_best.Reads.Post κ (s, (t, (n, tt))) x (s', (t', (n', tt))) → best.find_best.Reads.Post κ' (u, (t, (m, tt))) y (u', (t'', (m', tt)))
    → x.found.refusal ≡ 0 → y.found.refusal ≡ 0 → x.found ≡ y.found
find_best_alike κ κ' s s' u u' t t' t'' n n' m m' x y alike p q gx gy =
    let fx = find_best_found κ s s' t t' n n' x p gx in
    let fy = find_best_found κ' u u' t t'' m m' y q gy in
    fx ∙ only_the_last s.now u.now t (ap (λ (f : Found). f.refusal) (sym fx) ∙ gx) (ap (λ (f : Found). f.refusal) (sym fy) ∙ gy) alike ∙ sym fy

-- The same of `desk_best_quotes`: the same prices and sizes.
abbrev pub SamePrices : DeskBest → DeskBest → Type 0
SamePrices x y = (x.bid ≡ y.bid) × (x.offer ≡ y.offer) × (x.bid_size ≡ y.bid_size) × (x.offer_size ≡ y.offer_size)

prices : (x y : DeskBest) (l m : Looked) → x ≡ desk_best l → y ≡ desk_best m → l.found ≡ m.found → SamePrices x y
prices x y l m p q same =
    rw (p, q) (
      ap (λ (f : Found). price_number f.bid.price) same,
      ap (λ (f : Found). price_number f.offer.price) same,
      ap (λ (f : Found). f.bid.size.0) same,
      ap (λ (f : Found). f.offer.size.0) same,
    )

pub desk_best_quotes_same : (a r b : List ℕ) (κ κ' : Lfts 1) (s s' u u' : Bor (List ℕ)) (t t' t'' n n' m m' : ℕ) (x y : DeskBest) → Whole a → Whole r
    → s.now ≡ a ++ (r ++ b) → u.now ≡ a ++ b → ChangesNothing a r b t
    → desk.desk_best_quotes.Reads.Post κ (s, (t, (n, tt))) x (s', (t', (n', tt))) → desk.desk_best_quotes.Reads.Post κ' (u, (t, (m, tt))) y (u', (t'', (m', tt)))
    → x.refusal ≡ 0 → y.refusal ≡ 0 → SamePrices x y
desk_best_quotes_same a r b κ κ' s s' u u' t t' t'' n n' m m' x y wa wr long short nothing p q gx gy =
    prices x y (looked_of s.now t n) (looked_of u.now t m) p q
    (find_best_same a r b κ κ' s s' u u' t t' t'' n n' m m' (looked_of s.now t n) (looked_of u.now t m) wa wr long short nothing refl refl (rw p at gx) (rw q at gy))

pub desk_best_quotes_alike : (κ κ' : Lfts 1) (s s' u u' : Bor (List ℕ)) (t t' t'' n n' m m' : ℕ) (x y : DeskBest)
    → lasts (earlier t (posted_in s.now)) ≡ lasts (earlier t (posted_in u.now))
    → desk.desk_best_quotes.Reads.Post κ (s, (t, (n, tt))) x (s', (t', (n', tt))) → desk.desk_best_quotes.Reads.Post κ' (u, (t, (m, tt))) y (u', (t'', (m', tt)))
    → x.refusal ≡ 0 → y.refusal ≡ 0 → SamePrices x y
desk_best_quotes_alike κ κ' s s' u u' t t' t'' n n' m m' x y alike p q gx gy =
    prices x y (looked_of s.now t n) (looked_of u.now t m) p q
    (find_best_alike κ κ' s s' u u' t t' t'' n n' m m' (looked_of s.now t n) (looked_of u.now t m) alike refl refl (rw p at gx) (rw q at gy))
