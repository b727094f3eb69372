-- The head and the contracts (RULE R17.4, R17.10): from the figures of the ruling itself.
use Rattle.std.specs.Prelude.{ℕ, List, [], ◌∷◌, eqb}
use Rattle.wire.specs.Tests.{pick}
use Rattle.facts.specs.Numbers.{price_of}
use Rattle.words.specs.Names.{trade_words, none_words, adjust_words, nullify_words, wait_words, reason_words, end_words, contracts_words, of_words, adjusted_to_words, comma_words, stand_words, quote_size_words, rule_quoted_size_words, rule_official_size_words, rule_every_contract_words, nullified_words, all_stand_words}
use Rattle.words.specs.Pieces.{bytes_at, say, tell, found, blank}
use Rattle.step_lines.specs.Words.{Contracts, Side, Way, Obvious, Opening, Catastrophic, Origin, Quoted, Official, Judged, Reached, Late, Decided, Unpriced, Priced, Figures, Cover, Every, UpTo, ByOfficial, Number, Count, Dollars, Piece}
use Rattle.step_lines.specs.Rows.{size_place}

-- 0 no relief, 1 adjusted, 2 nullified, and 3, the only other, waiting
abbrev pub outcome_phrase : ℕ → ℕ
outcome_phrase outcome = pick (eqb outcome 0) none_words (pick (eqb outcome 1) adjust_words (pick (eqb outcome 2) nullify_words wait_words))

unfoldable pub head_row : Figures → List Piece
head_row n =
    tell trade_words (Number n.trade)
    ∷ say (outcome_phrase n.outcome)
    ∷ tell reason_words (Number n.reason)
    ∷ say end_words
    ∷ blank ∷ blank ∷ blank ∷ blank ∷ blank ∷ blank ∷ []

-- ---- how many contracts an adjustment covers: on the opening way at most the size of the quote that gave TP (RULE R9)

abbrev pub cover_by : Origin → Cover
cover_by (Quoted size) = UpTo size
cover_by Official = ByOfficial

abbrev pub cover_on : Way → Origin → Cover
cover_on Obvious o = Every
cover_on Opening o = cover_by o
cover_on Catastrophic o = Every

abbrev pub cover_of : Reached → Cover
cover_of Late = Every
cover_of Decided = Every
cover_of (Unpriced l) = Every
cover_of (Priced j) = cover_on j.way j.source.origin

abbrev pub size_piece : Side → Cover → Piece
size_piece side Every = blank
size_piece side (UpTo n) = found quote_size_words (Count n.0) (size_place side)
size_piece side ByOfficial = blank

abbrev pub cover_rule : Cover → ℕ
cover_rule Every = rule_every_contract_words
cover_rule (UpTo n) = rule_quoted_size_words
cover_rule ByOfficial = rule_official_size_words

-- ---- so many of those traded
abbrev pub of_traded : Contracts → Piece
of_traded n = found of_words (Count n.0) (bytes_at 12 4)

unfoldable pub adjusted_row : Contracts → Side → Cover → Figures → List Piece
adjusted_row traded side cover n =
    tell contracts_words (Count n.adjusted)
    ∷ of_traded traded
    ∷ tell adjusted_to_words (Dollars (price_of n.price))
    ∷ tell comma_words (Count n.standing)
    ∷ say stand_words
    ∷ size_piece side cover
    ∷ say (cover_rule cover)
    ∷ blank ∷ blank ∷ blank ∷ []

-- all nullified, or all standing
unfoldable pub all_row : Contracts → ℕ → ℕ → List Piece
all_row traded count phrase = tell contracts_words (Count count) ∷ of_traded traded ∷ say phrase ∷ blank ∷ blank ∷ blank ∷ blank ∷ blank ∷ blank ∷ blank ∷ []

abbrev pub contracts_row : Contracts → Side → Cover → Figures → List Piece
contracts_row traded side cover n =
    pick (eqb n.outcome 1) (adjusted_row traded side cover n)
    (pick (eqb n.outcome 2) (all_row traded n.nullified nullified_words) (all_row traded n.standing all_stand_words))
