-- Prices to be careful of. The record has the lowest byte first (RULE R2.1); whoever wrote the highest first wrote another number, which may
-- be a price too (RULE R2.3). It shows where the price that was meant is nearer to the execution than the price that stands.
use Rattle.std.specs.Prelude.{ℕ, ◌+◌, ◌-◌, Bool, true, false, ◌&&◌, ◌||◌, List, [], ◌∷◌, get_or, ltb, eqb}
use Rattle.wire.specs.Numbers.{joined, number_at}
use Rattle.wire.specs.Tests.{pick}
use Rattle.facts.specs.Numbers.{mills}
use Rattle.refusals.specs.Tests.{mills_ok, head_fault_of}
use Rattle.careful.specs.Words.{Warning, Caution, None, Some, Cautions}

-- ---- one price

-- the number in the four bytes from place i on, read high byte first
unfoldable pub turned_at : List ℕ → ℕ → ℕ
turned_at s i = joined (get_or s (i + 3) 0 ∷ get_or s (i + 2) 0 ∷ get_or s (i + 1) 0 ∷ get_or s i 0 ∷ [])

-- how far apart two numbers are
unfoldable pub distance : ℕ → ℕ → ℕ
distance a b = (a - b) + (b - a)

-- what there is to say of the price at place i, should one be careful of it: the execution price stands at 8 (RULE R2.6.8)
unfoldable pub warning_at : List ℕ → ℕ → Warning
warning_at s i =
    record {
      stands = mills (number_at 4 s i);
      turned = mills (turned_at s i);
      execution = mills (number_at 4 s 8);
      at = i;
    }

-- the execution is a price, and the turned one is nearer to it than the one that stands
unfoldable pub nearer : Warning → Bool
nearer w = mills_ok w.execution && ltb (distance w.turned.0 w.execution.0) (distance w.stands.0 w.execution.0)

-- Both are prices, and the turned one is nearer. The mark none is no price.
unfoldable pub misleads : Warning → Bool
misleads w = mills_ok w.stands && mills_ok w.turned && nearer w

unfoldable pub caution_at : List ℕ → ℕ → Caution
caution_at s i = pick (misleads (warning_at s i)) (Some (warning_at s i)) None

-- ---- the five of a record

unfoldable pub no_cautions : Cautions
no_cautions = record { bid = None; offer = None; official = None; buyer = None; seller = None }

-- 20 best bid; 24 best offer; 40 official's price; 52 buyer's limit; 60 seller's limit (RULE R2.6)
unfoldable pub cautions_in : List ℕ → Cautions
cautions_in s =
    record {
      bid = caution_at s 20;
      offer = caution_at s 24;
      official = caution_at s 40;
      buyer = caution_at s 52;
      seller = caution_at s 60;
    }

-- Bytes whose length or head is not a case's (RULE R3.1, R3.2) have none. A case that a later test refuses has its cautions.
unfoldable pub cautions_of : List ℕ → Cautions
cautions_of s = pick (eqb (head_fault_of s) 0) (cautions_in s) no_cautions

abbrev pub is_careful : Caution → Bool
is_careful None = false
is_careful (Some w) = true

-- some price of the record is one to be careful of
unfoldable pub any_caution : Cautions → Bool
any_caution c =
    is_careful c.bid || is_careful c.offer || is_careful c.official || is_careful c.buyer || is_careful c.seller
