-- The rows that warn of a price which may be turned (RULE R17.12), in the record's order.
use Rattle.std.specs.Prelude.{ℕ, List, [], ◌∷◌, ◌++◌}
use Rattle.words.specs.Names.{careful_bid_words, careful_offer_words, careful_official_words, careful_buyer_words, careful_seller_words, turned_words, nearer_words, end_words}
use Rattle.words.specs.Pieces.{bytes_at, say, tell, found, blank}
use Rattle.careful_lines.specs.Words.{Some, Warning, Caution, None, Cautions, Dollars, Piece}

-- the price as it stands, what its bytes are high byte first, and the execution that this is nearer to
unfoldable pub warning_row : ℕ → Warning → List Piece
warning_row phrase w =
    found phrase (Dollars (Some w.stands)) (bytes_at w.at 4)
    ∷ tell turned_words (Dollars (Some w.turned))
    ∷ found nearer_words (Dollars (Some w.execution)) (bytes_at 8 4)
    ∷ say end_words
    ∷ blank ∷ blank ∷ blank ∷ blank ∷ blank ∷ blank ∷ []

abbrev pub caution_rows : ℕ → Caution → List (List Piece)
caution_rows phrase None = []
caution_rows phrase (Some w) = warning_row phrase w ∷ []

unfoldable pub careful_rows : Cautions → List (List Piece)
careful_rows c =
    (((caution_rows careful_bid_words c.bid ++ caution_rows careful_offer_words c.offer) ++ caution_rows careful_official_words c.official)
    ++ caution_rows careful_buyer_words c.buyer)
    ++ caution_rows careful_seller_words c.seller
