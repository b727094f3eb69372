-- The two halves of a quote: the higher bid, the lower offer, and the sizes at a price (RULE R16.5 to R16.7). One definition serves both halves.
use Rattle.std.specs.Prelude.{ℕ, Bool, false, ltb, eqb}
use Rattle.wire.specs.Tests.{pick}
use Rattle.halves.specs.Words.{Mills, Price, Some, None, Quote, Posted, Half, Bid, Offer}

-- the half of a quote that is asked for
abbrev pub half_of : Half → Posted → Quote
half_of Bid q = q.bid
half_of Offer q = q.offer

-- the higher of two bids, the lower of two offers
abbrev pub winner : Half → Mills → Mills → Mills
winner Bid a b = pick (ltb a.0 b.0) b a
winner Offer a b = pick (ltb b.0 a.0) b a

-- the better of two prices; none has no say
abbrev pub better : Half → Price → Price → Price
better h None p = p
better h (Some a) None = Some a
better h (Some a) (Some b) = Some (winner h a b)

-- whether both are prices, and the same; none is at no price
abbrev pub same : Price → Price → Bool
same None p = false
same (Some a) None = false
same (Some a) (Some b) = eqb a.0 b.0

-- what a quote adds to the size at a price
unfoldable pub size_if : Price → Quote → ℕ
size_if p q = pick (same p q.price) q.size.0 0
