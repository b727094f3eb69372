-- The numbers by which the record spells a price or none, a moment or none (RULE R2.4).
-- `..Number` gives the page's number for each case of an answer; `..Of` reads it back.
use Rattle.std.specs.Prelude.{ℕ, eqb}
use Rattle.wire.specs.Tests.{pick}
use Rattle.facts.specs.Words.{Mills, Contracts, Seconds, Price, Some, None, Moment}

-- ---- the units: so many mills, contracts, seconds
abbrev pub mills : ℕ → Mills
mills n = record { 0 = n }

abbrev pub contracts : ℕ → Contracts
contracts n = record { 0 = n }

abbrev pub seconds : ℕ → Seconds
seconds n = record { 0 = n }

-- ---- 4,294,967,295 is the mark "none"
abbrev pub price_number : Price → ℕ
price_number (Some m) = m.0
price_number None = 4294967295

unfoldable pub price_of : ℕ → Price
price_of n = pick (eqb n 4294967295) None (Some (mills n))

abbrev pub moment_number : Moment → ℕ
moment_number (Some t) = t.0
moment_number None = 4294967295

unfoldable pub moment_of : ℕ → Moment
moment_of n = pick (eqb n 4294967295) None (Some (seconds n))
