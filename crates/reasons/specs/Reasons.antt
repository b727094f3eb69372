-- The outcome that each reason has (RULE R10.1.8).
use Rattle.std.specs.Prelude.{ℕ, eqb}
use Rattle.wire.specs.Tests.{pick, in_range}

-- A reason has one outcome: 1 to 5 no relief, 6 to 10 adjusted, 11 to 13 nullified, 14 waiting. 255 where the number is no reason.
unfoldable pub reason_outcome : ℕ → ℕ
reason_outcome r = pick (in_range 1 5 r) 0 (pick (in_range 6 10 r) 1 (pick (in_range 11 13 r) 2 (pick (eqb r 14) 3 255)))
