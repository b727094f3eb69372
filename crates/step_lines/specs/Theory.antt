-- The rows of the quotes and of TP (RULE R17.6).
use Rattle.std.specs.Prelude.{ℕ, Bool, false, List, [], ◌∷◌, ◌++◌}
use Rattle.wire.specs.Tests.{pick}
use Rattle.parties.specs.Parties.{by_side}
use Rattle.words.specs.Names.{quotes_words, at_least_the_bid_words, under_the_bid_words, plus_twice_words, equals_words, wide_words, not_wide_words, tp_words, the_offer_words, the_bid_words, official_words, tp_none_words, offer_is_words, bid_is_words, rule_official_words, rule_wide_official_words, rule_unpriced_words, rule_wide_unpriced_words}
use Rattle.words.specs.Pieces.{bytes_at, say, tell, found, blank}
use Rattle.step_lines.specs.Words.{Side, Gap, Spread, None, Some, Looked, Origin, Quoted, Official, Source, Dollars, Piece}
use Rattle.step_lines.specs.Rows.{money, quote_place}

-- bid and offer held against the differential, where the record has one
unfoldable pub gap_row : Gap → List Piece
gap_row g =
    found quotes_words (money g.offer) (bytes_at 24 4)
    ∷ found (pick g.wide at_least_the_bid_words under_the_bid_words) (money g.bid) (bytes_at 20 4)
    ∷ found plus_twice_words (money g.differential) (bytes_at 88 4)
    ∷ tell equals_words (money g.reach)
    ∷ say (pick g.wide wide_words not_wide_words)
    ∷ blank ∷ blank ∷ blank ∷ blank ∷ blank ∷ []

abbrev pub spread_rows : Spread → List (List Piece)
spread_rows None = []
spread_rows (Some g) = gap_row g ∷ []

abbrev pub is_wide : Spread → Bool
is_wide None = false
is_wide (Some g) = g.wide

-- the quote on the side in error as it stands
abbrev pub quote_is : Side → Looked → Piece
quote_is side l = found (by_side side offer_is_words bid_is_words) (Dollars l.quote) (quote_place side)

-- TP by a quote; by an official, and why no quote gave it; none
unfoldable pub quoted_row : Side → Source → List Piece
quoted_row side s = found tp_words (money s.price) (quote_place side) ∷ say (by_side side the_offer_words the_bid_words) ∷ blank ∷ blank ∷ blank ∷ blank ∷ blank ∷ blank ∷ blank ∷ blank ∷ []

unfoldable pub official_row : Side → Looked → Source → List Piece
official_row side l s =
    found tp_words (money s.price) (bytes_at 40 4)
    ∷ say official_words
    ∷ quote_is side l
    ∷ say (pick (is_wide l.spread) rule_wide_official_words rule_official_words)
    ∷ blank ∷ blank ∷ blank ∷ blank ∷ blank ∷ blank ∷ []

abbrev pub source_row : Side → Looked → Source → Origin → List Piece
source_row side l s (Quoted size) = quoted_row side s
source_row side l s Official = official_row side l s

unfoldable pub unpriced_row : Side → Looked → List Piece
unpriced_row side l =
    found tp_none_words (Dollars l.official) (bytes_at 40 4)
    ∷ quote_is side l
    ∷ say (pick (is_wide l.spread) rule_wide_unpriced_words rule_unpriced_words)
    ∷ blank ∷ blank ∷ blank ∷ blank ∷ blank ∷ blank ∷ blank ∷ []

abbrev pub unpriced_rows : Side → Looked → List (List Piece)
unpriced_rows side l = spread_rows l.spread ++ (unpriced_row side l ∷ [])
