-- The row of a refused case (RULE R17.11): the field that broke its test, the number that stands there, and what is allowed.
use Rattle.std.specs.Prelude.{ℕ, ◌%◌, Bool, List, [], ◌∷◌, length, get_or, leb, ltb, eqb}
use Rattle.wire.specs.Numbers.{number_at}
use Rattle.wire.specs.Tests.{pick}
use Rattle.facts.specs.Numbers.{seconds, price_of, moment_of}
use Rattle.codes.specs.Codes.{agreement_of}
use Rattle.words.specs.Names.{trade_words, refused_words, refused_case_words, end_words, case_length_words, head_length_words, head_kind_words, zero_words, side_words, opening_flag_words, expiry_flag_words, panel_flag_words, buyer_kind_words, seller_kind_words, filing_day_words, agreement_code_words, buyer_code_words, seller_code_words, execution_price_words, best_bid_words, best_offer_words, official_price_words, buyer_limit_words, seller_limit_words, agreed_price_words, differential_words, contracts_traded_words, bid_size_words, offer_size_words, execution_time_words, filing_time_words, agreement_made_words, acceptance_made_words, allowed_words, to_words, or_words, or_more_words, case_has_words, bid_is_words, offer_is_words, executed_at_words, execution_is_words, agreement_is_words, rule_refusal_words, bracket_words}
use Rattle.words.specs.Pieces.{bytes_at, say, tell, found, blank}
use Rattle.blame_lines.specs.Words.{FieldName, CaseLength, HeadLength, HeadKind, ZeroBytes, SideInError, OpeningFlag, ExpiryFlag, PanelFlag, BuyerKind, SellerKind, FilingDay, AgreementCode, BuyerCode, SellerCode, ExecutionPrice, BestBid, BestOffer, OfficialPrice, BuyerLimit, SellerLimit, AgreedPrice, Differential, ContractsTraded, BidSize, OfferSize, ExecutionTime, FilingTime, AgreementMade, AcceptanceMade, Measure, Plain, Counted, Money, Clocked, Lapsed, Lettered, Because, NoMatter, TheCase, TheBid, TheOffer, Executed, TheExecution, TheAgreement, Field, Blame, None, Some, Value, Number, Count, Dollars, Time, Lapse, Letter, Terms, Piece}

abbrev pub name_phrase : FieldName → ℕ
name_phrase CaseLength = case_length_words
name_phrase HeadLength = head_length_words
name_phrase HeadKind = head_kind_words
name_phrase ZeroBytes = zero_words
name_phrase SideInError = side_words
name_phrase OpeningFlag = opening_flag_words
name_phrase ExpiryFlag = expiry_flag_words
name_phrase PanelFlag = panel_flag_words
name_phrase BuyerKind = buyer_kind_words
name_phrase SellerKind = seller_kind_words
name_phrase FilingDay = filing_day_words
name_phrase AgreementCode = agreement_code_words
name_phrase BuyerCode = buyer_code_words
name_phrase SellerCode = seller_code_words
name_phrase ExecutionPrice = execution_price_words
name_phrase BestBid = best_bid_words
name_phrase BestOffer = best_offer_words
name_phrase OfficialPrice = official_price_words
name_phrase BuyerLimit = buyer_limit_words
name_phrase SellerLimit = seller_limit_words
name_phrase AgreedPrice = agreed_price_words
name_phrase Differential = differential_words
name_phrase ContractsTraded = contracts_traded_words
name_phrase BidSize = bid_size_words
name_phrase OfferSize = offer_size_words
name_phrase ExecutionTime = execution_time_words
name_phrase FilingTime = filing_time_words
name_phrase AgreementMade = agreement_made_words
name_phrase AcceptanceMade = acceptance_made_words

-- ---- numbers in their measure: of a member code the number that stands there, but the letters that are allowed

-- what is no time of any day is told in seconds
unfoldable pub timed : ℕ → Value
timed n = pick (ltb n 360000) (Time (seconds n)) (Lapse (Some (seconds n)))

abbrev pub measured : Measure → ℕ → Value
measured Plain n = Number n
measured Counted n = Count n
measured Money n = Dollars (price_of n)
measured Clocked n = timed n
measured Lapsed n = Lapse (moment_of n)
measured Lettered n = Number n

abbrev pub bound : Measure → ℕ → Value
bound Plain n = Number n
bound Counted n = Count n
bound Money n = Dollars (price_of n)
bound Clocked n = Time (seconds n)
bound Lapsed n = Lapse (moment_of n)
bound Lettered n = Letter (n % 256)

-- ---- what is allowed: low to high, low alone where they are the same, low or more where no number is above; then the other range, where there is one

-- above the largest price and the largest time, so that no upper bound was meant
abbrev pub unbounded : ℕ → Bool
unbounded n = leb 4294967294 n

unfoldable pub upper_piece : Measure → ℕ → ℕ → Piece
upper_piece unit low high = pick (eqb low high) blank (pick (unbounded high) (say or_more_words) (tell to_words (bound unit high)))

unfoldable pub other_piece : Measure → ℕ → ℕ → Piece
other_piece unit low high = pick (leb low high) (tell or_words (bound unit low)) blank

unfoldable pub other_upper_piece : Measure → ℕ → ℕ → Piece
other_upper_piece unit low high = pick (ltb low high) (tell to_words (bound unit high)) blank

-- ---- what else the bounds came from; of fewer than 88 bytes nothing is read
abbrev pub price_in : List ℕ → ℕ → Value
price_in s at = Dollars (price_of (number_at 4 s at))

abbrev pub cause_piece : List ℕ → Because → Piece
cause_piece s NoMatter = blank
cause_piece s TheCase = say case_has_words
cause_piece s TheBid = found bid_is_words (price_in s 20) (bytes_at 20 4)
cause_piece s TheOffer = found offer_is_words (price_in s 24) (bytes_at 24 4)
cause_piece s Executed = found executed_at_words (Time (seconds (number_at 4 s 16))) (bytes_at 16 4)
cause_piece s TheExecution = found execution_is_words (price_in s 8) (bytes_at 8 4)
cause_piece s TheAgreement = found agreement_is_words (Terms (agreement_of (get_or s 67 0))) (bytes_at 67 1)

unfoldable pub because_piece : List ℕ → Because → Piece
because_piece s b = pick (ltb (length s) 88) blank (cause_piece s b)

unfoldable pub field_row : List ℕ → Field → List Piece
field_row s f =
    found (name_phrase f.name) (measured f.unit f.number) (bytes_at f.at f.width)
    ∷ tell allowed_words (bound f.unit f.low)
    ∷ upper_piece f.unit f.low f.high
    ∷ other_piece f.unit f.low2 f.high2
    ∷ other_upper_piece f.unit f.low2 f.high2
    ∷ because_piece s f.because
    ∷ tell rule_refusal_words (Number f.test)
    ∷ say bracket_words
    ∷ blank ∷ blank ∷ []

-- ---- the head: of bytes that are no record by their length or their head no trade is told
unfoldable pub strange_row : ℕ → List Piece
strange_row test = tell refused_case_words (Number test) ∷ say end_words ∷ blank ∷ blank ∷ blank ∷ blank ∷ blank ∷ blank ∷ blank ∷ blank ∷ []

unfoldable pub refused_row : ℕ → ℕ → List Piece
refused_row trade test =
    tell trade_words (Number trade) ∷ tell refused_words (Number test) ∷ say end_words ∷ blank ∷ blank ∷ blank ∷ blank ∷ blank ∷ blank ∷ blank ∷ []

unfoldable pub refused_head : List ℕ → ℕ → List Piece
refused_head s test = pick (ltb test 3) (strange_row test) (pick (ltb (length s) 88) (strange_row test) (refused_row (number_at 4 s 4) test))

abbrev pub field_rows : List ℕ → Field → List (List Piece)
field_rows s f = refused_head s f.test ∷ field_row s f ∷ []

-- nothing is told of a case that is in order
abbrev pub blame_rows : List ℕ → Blame → List (List Piece)
blame_rows s None = []
blame_rows s (Some f) = field_rows s f
