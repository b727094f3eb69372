-- What the counter relies on in a ruling (RULE R12.2, R12.3), as predicates of it.
use Rattle.std.specs.Prelude.{ℕ, ◌+◌, ◌≤◌, ◌≡◌, true}
use Rattle.wire.specs.Tests.{in_range}
use Rattle.bands.specs.Between.{Between}
use Rattle.theory.specs.Theory.{theory_price}
use Rattle.act.specs.Numbers.{IfPriced}
use Rattle.ruling.specs.Words.{Mills, Price, Some, None, Counts, Ruling}
use Rattle.ruling.specs.Outcomes.{new_price, counts_of}

-- the contracts adjusted, nullified and standing together
abbrev pub total : Counts → ℕ
total c = c.adjusted.0 + c.nullified.0 + c.standing.0

-- a new price lies between TP and execution, ends included; an adjusted ruling always has its TP
abbrev pub between_if : Mills → Price → Price → Type 0
between_if execution (Some tp) (Some p) = Between tp p execution
between_if execution None (Some p) = ⊥
between_if execution tp None = Unit {0}

-- A price set for the reasons 6 to 9 lies between TP and execution.
abbrev pub LiesBetween : Mills → Ruling → Type 0
LiesBetween execution r = in_range 6 9 r.reason ≡ true → between_if execution (theory_price r.tp) (new_price r.outcome)

-- Adjusted, nullified and standing sum to the contracts traded.
abbrev pub SumsTo : ℕ → Ruling → Type 0
SumsTo traded r = total (counts_of r.outcome) ≡ traded

-- The new price, if there is one, is at most `top`.
abbrev pub PricedUpTo : ℕ → Ruling → Type 0
PricedUpTo top r = IfPriced (λ (p : Mills). p.0 ≤ top) (new_price r.outcome)
