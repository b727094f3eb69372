-- A listed byte read and spelled again is the byte; a case spelled and read again is the case.
use Prim.Native.Nat.{ℕ}
use mathlib.Core.Path.{◌≡◌, refl, ap, ◌∙◌}
use mathlib.Core.Bool.{Bool, true, false}
use Rattle.wire.specs.Tests.{in_range}
use Rattle.wire.proofs.Tests.{each_listed}
use Rattle.codes.specs.Words.{Side, Buy, Sell, Kind, Customer, MarketMaker, Other, Day, TradeDate, NextDay, Later, Agreement, NotMade, OnPrice, ToNullify}
use Rattle.codes.specs.Codes.{side_of, side_number, kind_of, kind_number, day_of, day_number, agreement_of, agreement_number, flag_of, flag_number}

-- ---- bytes read and spelled again
pub side_number_lem : (b : ℕ) → in_range 1 2 b ≡ true → side_number (side_of b) ≡ b
unfolding side_of
side_number_lem = each_listed (λ b. side_number (side_of b) ≡ b) 1 1 (refl, refl)

pub kind_number_lem : (b : ℕ) → in_range 1 3 b ≡ true → kind_number (kind_of b) ≡ b
unfolding kind_of
kind_number_lem = each_listed (λ b. kind_number (kind_of b) ≡ b) 2 1 (refl, (refl, refl))

pub day_number_lem : (b : ℕ) → in_range 0 2 b ≡ true → day_number (day_of b) ≡ b
unfolding day_of
day_number_lem = each_listed (λ b. day_number (day_of b) ≡ b) 2 0 (refl, (refl, refl))

pub agreement_number_lem : (b : ℕ) → in_range 0 2 b ≡ true → agreement_number (agreement_of b) ≡ b
unfolding agreement_of
agreement_number_lem = each_listed (λ b. agreement_number (agreement_of b) ≡ b) 2 0 (refl, (refl, refl))

pub flag_number_lem : (b : ℕ) → in_range 0 1 b ≡ true → flag_number (flag_of b) ≡ b
unfolding flag_of
flag_number_lem = each_listed (λ b. flag_number (flag_of b) ≡ b) 1 0 (refl, refl)

-- ---- cases spelled and read again
pub side_again : (s : Side) → side_of (side_number s) ≡ s
unfolding side_of
side_again Buy = refl
side_again Sell = refl

pub kind_again : (k : Kind) → kind_of (kind_number k) ≡ k
unfolding kind_of
kind_again Customer = refl
kind_again MarketMaker = refl
kind_again Other = refl

pub day_again : (d : Day) → day_of (day_number d) ≡ d
unfolding day_of
day_again TradeDate = refl
day_again NextDay = refl
day_again Later = refl

pub agreement_again : (a : Agreement) → agreement_of (agreement_number a) ≡ a
unfolding agreement_of
agreement_again NotMade = refl
agreement_again OnPrice = refl
agreement_again ToNullify = refl

pub flag_again : (f : Bool) → flag_of (flag_number f) ≡ f
unfolding flag_of
flag_again true = refl
flag_again false = refl

-- ---- a case's number is in its list
pub side_listed : (s : Side) → in_range 1 2 (side_number s) ≡ true
unfolding in_range
side_listed Buy = refl
side_listed Sell = refl

pub kind_listed : (k : Kind) → in_range 1 3 (kind_number k) ≡ true
unfolding in_range
kind_listed Customer = refl
kind_listed MarketMaker = refl
kind_listed Other = refl

pub day_listed : (d : Day) → in_range 0 2 (day_number d) ≡ true
unfolding in_range
day_listed TradeDate = refl
day_listed NextDay = refl
day_listed Later = refl

pub agreement_listed : (a : Agreement) → in_range 0 2 (agreement_number a) ≡ true
unfolding in_range
agreement_listed NotMade = refl
agreement_listed OnPrice = refl
agreement_listed ToNullify = refl

pub flag_listed : (f : Bool) → in_range 0 1 (flag_number f) ≡ true
unfolding in_range
flag_listed true = refl
flag_listed false = refl

-- ---- an answer that is a case, with the number that the page gives it where the byte is listed
pub spelled_if : {A : Type 0} {r a : A} {b : ℕ} {listed : Type 0} (number : A → ℕ) → (listed → number a ≡ b) → r ≡ a
    → (r ≡ a) × (listed → number r ≡ b)
spelled_if number f e = (e, λ h. ap number e ∙ f h)
