-- The fields of a case record with what each may hold, test by test (RULE R3.1 to R3.9), each test's in the record's order (RULE R2.6). Where a bound
-- goes by another field, that field is read by the same words as in the facts (`record`).
use Rattle.std.specs.Prelude.{ℕ, Bool, ◌||◌, List, [], ◌∷◌, ◌++◌, length, get_or, eqb, ltb}
use Rattle.wire.specs.Numbers.{number_at}
use Rattle.wire.specs.Tests.{pick, in_range}
use Rattle.facts.specs.Numbers.{price_of}
use Rattle.codes.specs.Codes.{day_of, agreement_of}
use Rattle.forms.specs.Forms.{form_kind, form_of}
use Rattle.blame.specs.Words.{Price, Some, None, Day, TradeDate, NextDay, Later, Agreement, NotMade, OnPrice, ToNullify, Form, One, Two, FieldName, CaseLength, HeadLength, HeadKind, ZeroBytes, SideInError, OpeningFlag, ExpiryFlag, PanelFlag, BuyerKind, SellerKind, FilingDay, AgreementCode, BuyerCode, SellerCode, ExecutionPrice, BestBid, BestOffer, OfficialPrice, BuyerLimit, SellerLimit, AgreedPrice, Differential, ContractsTraded, BidSize, OfferSize, ExecutionTime, FilingTime, AgreementMade, AcceptanceMade, Measure, Plain, Counted, Money, Clocked, Lapsed, Lettered, Because, NoMatter, TheCase, TheBid, TheOffer, Executed, TheExecution, TheAgreement, Bounds, Field, Blame}

-- ---- a field is in order where its number is in one of its two ranges
unfoldable pub field_ok : Field → Bool
field_ok f = in_range f.low f.high f.number || in_range f.low2 f.high2 f.number

-- what the later fields say where this one is in order, else this one
unfoldable pub keep : Field → Blame → Blame
keep f later = pick (field_ok f) later (Some f)

-- the first of these fields that is not in order, or what the later ones say
abbrev pub or_later : List Field → Blame → Blame
or_later [] later = later
or_later (f ∷ fs) later = keep f (or_later fs later)

abbrev pub first_bad : List Field → Blame
first_bad fs = or_later fs None

-- ---- what a field may hold: one range alone, or none besides (4,294,967,295: RULE R2.4). A range of 1 to 0 holds nothing.
abbrev pub within : ℕ → ℕ → Bounds
within low high = record { low = low; high = high; low2 = 1; high2 = 0 }

abbrev pub or_none : ℕ → ℕ → Bounds
or_none low high = record { low = low; high = high; low2 = 4294967295; high2 = 4294967295 }

-- ---- a field of the record: the number told is the one that stands at the place told
abbrev pub held_at : List ℕ → FieldName → ℕ → Measure → ℕ → ℕ → Bounds → Because → Field
held_at s name test unit at width bounds because =
    record {
      name = name;
      test = test;
      unit = unit;
      at = at;
      width = width;
      number = number_at width s at;
      low = bounds.low;
      high = bounds.high;
      low2 = bounds.low2;
      high2 = bounds.high2;
      because = because;
    }

-- ---- 1: the case is 88 or 92 bytes long; a length that four bytes cannot hold is told as the highest that they can
unfoldable pub capped : ℕ → ℕ
capped n = pick (ltb n 4294967295) n 4294967295

unfoldable pub case_length : List ℕ → Field
case_length s =
    record {
      name = CaseLength;
      test = 1;
      unit = Counted;
      at = 0;
      width = 0;
      number = capped (length s);
      low = 88;
      high = 88;
      low2 = 92;
      high2 = 92;
      because = NoMatter;
    }

-- ---- 2: length and kind at the head are those of a case of this very length
unfoldable pub head_length : List ℕ → Field
head_length s = held_at s HeadLength 2 Counted 0 2 (within (capped (length s)) (capped (length s))) TheCase

unfoldable pub head_kind : List ℕ → Field
head_kind s = held_at s HeadKind 2 Plain 2 2 (within (form_kind (form_of s)) (form_kind (form_of s))) NoMatter

abbrev pub head_fields : List ℕ → List Field
head_fields s = head_length s ∷ head_kind s ∷ []

-- ---- 3: every zero byte is zero, and every coded byte is in its list
unfoldable pub zero_field : List ℕ → ℕ → Field
zero_field s at = held_at s ZeroBytes 3 Plain at 4 (within 0 0) NoMatter

unfoldable pub coded_field : List ℕ → FieldName → ℕ → ℕ → ℕ → Field
coded_field s name at low high = held_at s name 3 Plain at 1 (within low high) NoMatter

-- from byte 64 on
abbrev pub listed_fields : List ℕ → List Field
listed_fields s =
    coded_field s BuyerKind 64 1 3
    ∷ coded_field s SellerKind 65 1 3
    ∷ coded_field s FilingDay 66 0 2
    ∷ coded_field s AgreementCode 67 0 2
    ∷ zero_field s 84
    ∷ []

abbrev pub coded_fields : List ℕ → List Field
coded_fields s =
    zero_field s 36
    ∷ coded_field s SideInError 44 1 2
    ∷ coded_field s OpeningFlag 45 0 1
    ∷ coded_field s ExpiryFlag 46 0 1
    ∷ coded_field s PanelFlag 47 0 1
    ∷ listed_fields s

-- ---- 4: each byte of a member code is '0' to '9' (48 to 57) or 'A' to 'Z' (65 to 90)
unfoldable pub letter_field : List ℕ → FieldName → ℕ → Field
letter_field s name at = held_at s name 4 Lettered at 1 (record { low = 48; high = 57; low2 = 65; high2 = 90 }) NoMatter

abbrev pub code_fields : List ℕ → List Field
code_fields s =
    letter_field s BuyerCode 48
    ∷ letter_field s BuyerCode 49
    ∷ letter_field s BuyerCode 50
    ∷ letter_field s BuyerCode 51
    ∷ letter_field s SellerCode 56
    ∷ letter_field s SellerCode 57
    ∷ letter_field s SellerCode 58
    ∷ letter_field s SellerCode 59
    ∷ []

-- ---- 5: a price is at most 9,999,999, or none where that is permitted; the permitted differential is at least 1
unfoldable pub money_field : List ℕ → FieldName → ℕ → Bounds → Field
money_field s name at bounds = held_at s name 5 Money at 4 bounds NoMatter

-- a case of kind 1 has no permitted differential
abbrev pub differential_fields : Form → List ℕ → List Field
differential_fields One s = []
differential_fields (Two differential) s = money_field s Differential 88 (within 1 9999999) ∷ []

abbrev pub price_fields : List ℕ → List Field
price_fields s =
    money_field s ExecutionPrice 8 (within 0 9999999)
    ∷ money_field s BestBid 20 (or_none 0 9999999)
    ∷ money_field s BestOffer 24 (or_none 0 9999999)
    ∷ money_field s OfficialPrice 40 (or_none 0 9999999)
    ∷ money_field s BuyerLimit 52 (or_none 0 9999999)
    ∷ money_field s SellerLimit 60 (or_none 0 9999999)
    ∷ money_field s AgreedPrice 68 (or_none 0 9999999)
    ∷ differential_fields (form_of s) s

-- ---- 6: 1 to 1,000,000 contracts; a size is at most 1,000,000, at least 1 for a quote above zero, 0 for a quote of none
abbrev pub size_bounds : Price → Bounds
size_bounds (Some m) = within (pick (eqb m.0 0) 0 1) 1000000
size_bounds None = within 0 0

unfoldable pub count_field : List ℕ → FieldName → ℕ → Bounds → Because → Field
count_field s name at bounds because = held_at s name 6 Counted at 4 bounds because

abbrev pub count_fields : List ℕ → List Field
count_fields s =
    count_field s ContractsTraded 12 (within 1 1000000) NoMatter
    ∷ count_field s BidSize 28 (size_bounds (price_of (number_at 4 s 20))) TheBid
    ∷ count_field s OfferSize 32 (size_bounds (price_of (number_at 4 s 24))) TheOffer
    ∷ []

-- ---- 7: times of day to 86,399, seconds after notice to 86,400; on the trade date no filing before the execution
abbrev pub filed_bounds : Day → ℕ → Bounds
filed_bounds TradeDate executed = within executed 86399
filed_bounds NextDay executed = within 0 86399
filed_bounds Later executed = within 0 86399

abbrev pub filed_because : Day → Because
filed_because TradeDate = Executed
filed_because NextDay = NoMatter
filed_because Later = NoMatter

unfoldable pub clock_field : List ℕ → FieldName → ℕ → Bounds → Because → Field
clock_field s name at bounds because = held_at s name 7 Clocked at 4 bounds because

unfoldable pub lapse_field : List ℕ → FieldName → ℕ → Bounds → Field
lapse_field s name at bounds = held_at s name 7 Lapsed at 4 bounds NoMatter

abbrev pub filed_field : List ℕ → Field
filed_field s = clock_field s FilingTime 72 (filed_bounds (day_of (get_or s 66 0)) (number_at 4 s 16)) (filed_because (day_of (get_or s 66 0)))

abbrev pub time_fields : List ℕ → List Field
time_fields s =
    clock_field s ExecutionTime 16 (within 0 86399) NoMatter
    ∷ filed_field s
    ∷ lapse_field s AgreementMade 76 (within 0 86400)
    ∷ lapse_field s AcceptanceMade 80 (or_none 0 86400)
    ∷ []

-- ---- 8: a buyer's limit is not below the execution price, a seller's not above it; none is no limit
unfoldable pub limit_field : List ℕ → FieldName → ℕ → Bounds → Field
limit_field s name at bounds = held_at s name 8 Money at 4 bounds TheExecution

abbrev pub limit_fields : List ℕ → List Field
limit_fields s =
    limit_field s BuyerLimit 52 (or_none (number_at 4 s 8) 4294967294) ∷ limit_field s SellerLimit 60 (or_none 0 (number_at 4 s 8)) ∷ []

-- ---- 9: an agreed price is there exactly where the agreement is on a price; where none was made its seconds are 0
abbrev pub agreed_bounds : Agreement → Bounds
agreed_bounds NotMade = within 4294967295 4294967295
agreed_bounds OnPrice = within 0 4294967294
agreed_bounds ToNullify = within 4294967295 4294967295

abbrev pub made_bounds : Agreement → Bounds
made_bounds NotMade = within 0 0
made_bounds OnPrice = within 0 4294967295
made_bounds ToNullify = within 0 4294967295

unfoldable pub terms_field : List ℕ → FieldName → Measure → ℕ → Bounds → Field
terms_field s name unit at bounds = held_at s name 9 unit at 4 bounds TheAgreement

abbrev pub agreement_fields : List ℕ → List Field
agreement_fields s =
    terms_field s AgreedPrice Money 68 (agreed_bounds (agreement_of (get_or s 67 0)))
    ∷ terms_field s AgreementMade Lapsed 76 (made_bounds (agreement_of (get_or s 67 0)))
    ∷ []

-- ---- the tests 2 to 9, of a case that has the bytes
unfoldable pub inside_blame : List ℕ → Blame
inside_blame s =
    or_later (head_fields s)
    (or_later (coded_fields s)
    (or_later (code_fields s)
    (or_later (price_fields s) (or_later (count_fields s) (or_later (time_fields s) (or_later (limit_fields s) (or_later (agreement_fields s) None)))))))

-- ---- all of them, in the order of the tests
abbrev pub fields_of : List ℕ → List Field
fields_of s =
    (case_length s ∷ [])
    ++ (head_fields s
    ++ (coded_fields s
    ++ (code_fields s
    ++ (price_fields s ++ (count_fields s ++ (time_fields s ++ (limit_fields s ++ agreement_fields s)))))))

-- ---- the first field that is not in order: that of the first test that fails, and in the record's order the first that breaks it
unfoldable pub blame_of : List ℕ → Blame
blame_of s = first_bad (fields_of s)

-- the number of its test, or 0
abbrev pub number_of : Blame → ℕ
number_of None = 0
number_of (Some f) = f.test
