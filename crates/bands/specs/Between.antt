-- Where a price lies (RULE R12.2).
use Rattle.std.specs.Prelude.{◌+◌, ◌≤◌, min, max, ◌≡◌}
use Rattle.bands.specs.Words.{Mills, Side, Buy, Sell}

-- between two prices, ends included
abbrev pub Between : Mills → Mills → Mills → Type 0
Between a p b = (min a.0 b.0 ≤ p.0) × (p.0 ≤ max a.0 b.0)

-- above TP (buy) or below it (sell) by the whole of an amount
abbrev pub Apart : Side → Mills → Mills → Mills → Type 0
Apart Buy tp by p = p.0 ≡ tp.0 + by.0
Apart Sell tp by p = p.0 + by.0 ≡ tp.0
