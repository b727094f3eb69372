-- The best of the exchanges' quotes (RULE R16.4 to R16.8): the highest bid, the lowest offer, and how many contracts are asked or given at that
-- price.
use Rattle.std.specs.Prelude.{ℕ, ◌+◌, min, List, [], ◌∷◌}
use Rattle.facts.specs.Numbers.{contracts}
use Rattle.halves.specs.Halves.{half_of, better, size_if}
use Rattle.best.specs.Words.{Price, None, Quote, Half, Last, Some}

-- what an exchange says on this half. One that sent nothing says none, for nothing
abbrev pub nobody : Quote
nobody = record { price = None; size = contracts 0 }

abbrev pub said_by : Half → Last → Quote
said_by h None = nobody
said_by h (Some q) = half_of h q

-- the highest bid, the lowest offer: none where nobody has a say
unfoldable pub best_price : Half → List Quote → Price
best_price h [] = None
best_price h (q ∷ qs) = better h q.price (best_price h qs)

-- the sum of the sizes at a price
unfoldable pub size_at : Price → List Quote → ℕ
size_at p [] = 0
size_at p (q ∷ qs) = size_if p q + size_at p qs

-- both; a sum above 1,000,000 is given as 1,000,000
unfoldable pub best_of : Half → List Quote → Quote
best_of h qs = record { price = best_price h qs; size = contracts (min (size_at (best_price h qs) qs) 1000000) }
