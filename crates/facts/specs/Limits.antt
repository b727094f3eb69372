-- A price violates a buyer's limit if above it, a seller's if below; none is never violated (RULE R8.1).
use Rattle.std.specs.Prelude.{Bool, false, ltb}
use Rattle.facts.specs.Words.{Mills, Price, Some, None, Side, Buy, Sell}

abbrev pub violates : Side → Price → Mills → Bool
violates side None p = false
violates Buy (Some limit) p = ltb limit.0 p.0
violates Sell (Some limit) p = ltb p.0 limit.0
