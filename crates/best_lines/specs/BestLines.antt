-- The lines that say where a best price was born: the best bid or offer, and an exchange whose last quote is at that price.
use Rattle.std.specs.Prelude.{ℕ, List, [], ◌∷◌, ◌++◌}
use Rattle.wire.specs.Tests.{pick}
use Rattle.text.specs.Text.{letters, decimal_of}
use Rattle.spelling.specs.Times.{time_text}
use Rattle.spelling.specs.Dollars.{dollars_text}
use Rattle.halves.specs.Halves.{half_of, same}
use Rattle.best_lines.specs.Words.{Price, Some, None, Quote, Posted, Half, Bid, Offer, Last}

-- how many contracts, which ends the line; 10 is the line feed
unfoldable pub size_text : ℕ → List ℕ
size_text n = letters " for " ++ decimal_of n ++ (10 ∷ [])

-- ---- the best of a half

-- what the best of this half is called
unfoldable pub head_name : Half → List ℕ
head_name Bid = letters "best bid "
head_name Offer = letters "best offer "

-- the size beside a price; none is for nothing
unfoldable pub amount_text : Price → ℕ → List ℕ
amount_text (Some p) n = size_text n
amount_text None n = 10 ∷ []

-- the best of this half: its price in dollars and its size, or `none`
unfoldable pub head_line : Half → Quote → List ℕ
head_line h best = head_name h ++ dollars_text best.price ++ amount_text best.price best.size.0

-- ---- an exchange at that price

-- the exchange of a quote, the second at which it came, and the size of this half of it
unfoldable pub quote_line : Half → Posted → List ℕ
quote_line h q = letters "  exchange " ++ decimal_of q.exchange ++ letters " at " ++ time_text q.time.0 ++ size_text (half_of h q).size.0

-- what an exchange last sent, where this half of it is at the price: no line where it is not, or where it sent nothing
unfoldable pub sayer_line : Half → Price → Last → List ℕ
sayer_line h p None = []
sayer_line h p (Some q) = pick (same p (half_of h q).price) (quote_line h q) []
