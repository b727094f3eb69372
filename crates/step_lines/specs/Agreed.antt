-- The agreement's row (RULE R17.8): what was agreed and when, how long was allowed, and whether it counts.
use Rattle.std.specs.Prelude.{ℕ, List, [], ◌∷◌, eqb}
use Rattle.wire.specs.Tests.{pick}
use Rattle.words.specs.Names.{agreement_words, no_agreement_words, comma_words, made_words, with_customer_words, without_customer_words, price_counts_words, nullify_counts_words, too_late_words, not_with_customer_words}
use Rattle.words.specs.Pieces.{bytes_at, say, tell, found, blank}
use Rattle.step_lines.specs.Words.{Price, Agreement, NotMade, OnPrice, ToNullify, Settled, Dollars, Terms, Piece}
use Rattle.step_lines.specs.Rows.{passed}

-- whether it counts, by why it does not (`steps`, ignored_why)
abbrev pub verdict : ℕ → ℕ → ℕ
verdict counts ignored = pick (eqb ignored 0) counts (pick (eqb ignored 2) too_late_words not_with_customer_words)

-- what follows the terms: when it was made, how long was allowed, and the verdict
unfoldable pub made_row : Piece → ℕ → Settled → List Piece
made_row price counts g =
    found agreement_words (Terms g.terms.agreement) (bytes_at 67 1)
    ∷ price
    ∷ found made_words (passed g.terms.made) (bytes_at 76 4)
    ∷ tell (pick g.customer with_customer_words without_customer_words) (passed g.allowed)
    ∷ say (verdict counts g.ignored)
    ∷ blank ∷ blank ∷ blank ∷ blank ∷ blank ∷ []

unfoldable pub none_row : Settled → List Piece
none_row g =
    found agreement_words (Terms g.terms.agreement) (bytes_at 67 1) ∷ say no_agreement_words ∷ blank ∷ blank ∷ blank ∷ blank ∷ blank ∷ blank ∷ blank ∷ blank ∷ []

abbrev pub agreed_piece : Price → Piece
agreed_piece p = found comma_words (Dollars p) (bytes_at 68 4)

abbrev pub agreement_row_for : Agreement → Settled → List Piece
agreement_row_for NotMade g = none_row g
agreement_row_for OnPrice g = made_row (agreed_piece g.terms.agreed) price_counts_words g
agreement_row_for ToNullify g = made_row blank nullify_counts_words g

unfoldable pub agreement_row : Settled → List Piece
agreement_row g = agreement_row_for g.terms.agreement g
