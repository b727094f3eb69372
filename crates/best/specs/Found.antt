-- What a lookup finds (RULE R16.9): the number of the first test that fails, or the best bid and offer.
use Rattle.std.specs.Prelude.{ℕ, List, map, eqb}
use Rattle.wire.specs.Tests.{pick}
use Rattle.quotes.specs.Quotes.{posted_in, quotes_refusal_of}
use Rattle.earlier.specs.Earlier.{earlier}
use Rattle.best.specs.Words.{Quote, Posted, Half, Bid, Offer, Found}
use Rattle.best.specs.Lasts.{lasts}
use Rattle.best.specs.Best.{said_by, nobody, best_of}

-- the best bid, or offer, of each exchange's last quote among these
abbrev pub best_in : Half → List Posted → Quote
best_in h qs = best_of h (map (said_by h) (lasts qs))

-- both
unfoldable pub found_in : List Posted → Found
found_in qs = record { refusal = 0; bid = best_in Bid qs; offer = best_in Offer qs }

-- beside a number nothing is found
abbrev pub refused : ℕ → Found
refused n = record { refusal = n; bid = nobody; offer = nobody }

-- among the quotes strictly before the trade, where the tests 20 to 23 pass
unfoldable pub found_of : List ℕ → ℕ → Found
found_of s t = pick (eqb (quotes_refusal_of s t) 0) (found_in (earlier t (posted_in s))) (refused (quotes_refusal_of s t))
