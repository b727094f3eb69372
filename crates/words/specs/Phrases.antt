-- The phrases of an explanation (RULE R17), by number; born from phrases.txt. 10 is the line feed.
use Rattle.std.specs.Prelude.{ℕ, zero, suc, ◌+◌, List, [], ◌∷◌, ◌++◌, length, get_or}
use Rattle.text.specs.Text.{letters}

unfoldable pub phrases : List (List ℕ)
phrases =
    letters ""  -- 0 nothing
    ∷ (10 ∷ [])  -- 1 end
    ∷ letters "trade "  -- 2 trade
    ∷ letters ": NONE"  -- 3 none
    ∷ letters ": ADJUST"  -- 4 adjust
    ∷ letters ": NULLIFY"  -- 5 nullify
    ∷ letters ": WAIT"  -- 6 wait
    ∷ letters ", reason "  -- 7 reason
    ∷ letters ": REFUSED "  -- 8 refused
    ∷ letters "REFUSED "  -- 9 refused-case
    ∷ letters "  way        obvious: filed at "  -- 10 way-obvious
    ∷ letters "  way        opening: filed at "  -- 11 way-opening
    ∷ letters "  way        catastrophic: filed at "  -- 12 way-catastrophic
    ∷ letters "  way        none is open: filed at "  -- 13 way-none
    ∷ letters " on "  -- 14 on
    ∷ letters ", "  -- 15 comma
    ∷ letters " after the execution at "  -- 16 after-execution
    ∷ letters ", executed at "  -- 17 executed
    ∷ (letters " [R4.1]" ++ (10 ∷ []))  -- 18 rule-obvious
    ∷ (letters " [R4.2]" ++ (10 ∷ []))  -- 19 rule-opening
    ∷ (letters " [R4.3]" ++ (10 ∷ []))  -- 20 rule-catastrophic
    ∷ (letters " [R4.4]" ++ (10 ∷ []))  -- 21 rule-late
    ∷ letters "             not obvious: filed on "  -- 22 not-obvious-day
    ∷ letters "             not obvious: open to "  -- 23 not-obvious-time
    ∷ letters " for "  -- 24 for
    ∷ letters "             not opening: filed on "  -- 25 not-opening-day
    ∷ letters "             not opening: an opening trade: "  -- 26 not-opening-trade
    ∷ letters "             not opening: in error is "  -- 27 not-opening-party
    ∷ letters "             not opening: open only after "  -- 28 not-opening-soon
    ∷ letters "             not opening: open up to "  -- 29 not-opening-late
    ∷ letters "             not catastrophic: filed on "  -- 30 not-catastrophic-day
    ∷ letters "             not catastrophic: expiry deadline: "  -- 31 not-catastrophic-expiry
    ∷ letters "             not catastrophic: next day, open up to "  -- 32 not-catastrophic-next
    ∷ letters ", open up to "  -- 33 open-up-to
    ∷ letters ", filed on "  -- 34 filed-on
    ∷ letters "  panel      already decided: "  -- 35 panel
    ∷ (letters " [R4.5]" ++ (10 ∷ []))  -- 36 rule-panel
    ∷ letters "  quotes     the offer "  -- 37 quotes
    ∷ letters " is at least the bid "  -- 38 at-least-the-bid
    ∷ letters " is under the bid "  -- 39 under-the-bid
    ∷ letters " + twice "  -- 40 plus-twice
    ∷ (letters ": wide [R5.6]" ++ (10 ∷ []))  -- 41 wide
    ∷ (letters ": not wide [R5.6]" ++ (10 ∷ []))  -- 42 not-wide
    ∷ letters "  TP         "  -- 43 tp
    ∷ (letters ", the best offer [R5.1]" ++ (10 ∷ []))  -- 44 the-offer
    ∷ (letters ", the best bid [R5.1]" ++ (10 ∷ []))  -- 45 the-bid
    ∷ letters ", an official's price"  -- 46 official
    ∷ letters "  TP         none: the official's price is "  -- 47 tp-none
    ∷ letters "; the best offer is "  -- 48 offer-is
    ∷ letters "; the best bid is "  -- 49 bid-is
    ∷ (letters " [R5.2]" ++ (10 ∷ []))  -- 50 rule-official
    ∷ (letters ", too wide [R5.8]" ++ (10 ∷ []))  -- 51 rule-wide-official
    ∷ (letters " [R5.3]" ++ (10 ∷ []))  -- 52 rule-unpriced
    ∷ (letters ", too wide [R5.9]" ++ (10 ∷ []))  -- 53 rule-wide-unpriced
    ∷ letters "  error      "  -- 54 error
    ∷ letters " is at least "  -- 55 is-at-least
    ∷ letters " is under "  -- 56 is-under
    ∷ letters " + "  -- 57 plus
    ∷ letters " - "  -- 58 minus
    ∷ letters " = "  -- 59 equals
    ∷ letters ", by "  -- 60 by
    ∷ letters "; "  -- 61 semicolon
    ∷ letters " is the obvious minimum for a TP of "  -- 62 obvious-minimum
    ∷ letters " is the catastrophic minimum for a TP of "  -- 63 catastrophic-minimum
    ∷ letters " to "  -- 64 to
    ∷ (letters " [R6.1, R6.2]" ++ (10 ∷ []))  -- 65 rule-error
    ∷ letters "  agreement  "  -- 66 agreement
    ∷ (letters " [R7.4]" ++ (10 ∷ []))  -- 67 no-agreement
    ∷ letters ", made "  -- 68 made
    ∷ letters " after notice; with a Customer allowed: "  -- 69 with-customer
    ∷ letters " after notice; without a Customer allowed: "  -- 70 without-customer
    ∷ (letters ": it counts [R7.2]" ++ (10 ∷ []))  -- 71 price-counts
    ∷ (letters ": it counts [R7.3]" ++ (10 ∷ []))  -- 72 nullify-counts
    ∷ (letters ": too late [R7.1, R7.4]" ++ (10 ∷ []))  -- 73 too-late
    ∷ (letters ": not with a Customer on this way [R7.3, R7.4]" ++ (10 ∷ []))  -- 74 not-with-customer
    ∷ letters "  act        the buyer is "  -- 75 act-buyer
    ∷ letters ", the seller "  -- 76 seller-is
    ∷ letters ": "  -- 77 colon
    ∷ (letters ": with a Customer undone [R8.2.2]" ++ (10 ∷ []))  -- 78 undone
    ∷ (letters " [R8.2.1]" ++ (10 ∷ []))  -- 79 rule-obvious-act
    ∷ letters "  act        TP itself, "  -- 80 act-itself
    ∷ (letters " [R8.3.1]" ++ (10 ∷ []))  -- 81 rule-opening-act
    ∷ letters "  act        "  -- 82 act
    ∷ (letters " [R8.4.1]" ++ (10 ∷ []))  -- 83 rule-catastrophic-act
    ∷ letters "  limit      the buyer is "  -- 84 limit-buyer
    ∷ letters "  limit      the seller is "  -- 85 limit-seller
    ∷ letters ", its limit "  -- 86 its-limit
    ∷ letters " is above it"  -- 87 is-above
    ∷ letters " is below it"  -- 88 is-below
    ∷ letters " does not violate it"  -- 89 keeps
    ∷ (letters " [R8.3.2]" ++ (10 ∷ []))  -- 90 rule-own-limit
    ∷ (letters " [R8.3.3]" ++ (10 ∷ []))  -- 91 rule-other-limit
    ∷ (letters " [R8.4.2]" ++ (10 ∷ []))  -- 92 rule-customer-limit
    ∷ letters "  acceptance after notice: "  -- 93 acceptance
    ∷ letters "; allowed: "  -- 94 allowed
    ∷ (letters ": in time [R8.4.3]" ++ (10 ∷ []))  -- 95 in-time
    ∷ (letters ": not in time [R8.4.4]" ++ (10 ∷ []))  -- 96 not-in-time
    ∷ letters "  contracts  "  -- 97 contracts
    ∷ letters " of "  -- 98 of
    ∷ letters " adjusted to "  -- 99 adjusted-to
    ∷ letters " stand"  -- 100 stand
    ∷ letters "; the quote's size is "  -- 101 quote-size
    ∷ (letters " [R9.1, R9.5]" ++ (10 ∷ []))  -- 102 rule-quoted-size
    ∷ (letters " [R9.3]" ++ (10 ∷ []))  -- 103 rule-official-size
    ∷ (letters " [R9.4]" ++ (10 ∷ []))  -- 104 rule-every-contract
    ∷ (letters " nullified [R9.4]" ++ (10 ∷ []))  -- 105 nullified
    ∷ (letters " stand [R9.5]" ++ (10 ∷ []))  -- 106 all-stand
    ∷ letters "  careful    the bid "  -- 107 careful-bid
    ∷ letters "  careful    the offer "  -- 108 careful-offer
    ∷ letters "  careful    the official's price "  -- 109 careful-official
    ∷ letters "  careful    the buyer's limit "  -- 110 careful-buyer
    ∷ letters "  careful    the seller's limit "  -- 111 careful-seller
    ∷ letters " read high byte first is "  -- 112 turned
    ∷ letters ", nearer the execution "  -- 113 nearer
    ∷ letters "  length of the case "  -- 114 case-length
    ∷ letters "  length at the head "  -- 115 head-length
    ∷ letters "  kind at the head "  -- 116 head-kind
    ∷ letters "  zero bytes "  -- 117 zero
    ∷ letters "  side in error "  -- 118 side
    ∷ letters "  on the opening "  -- 119 opening-flag
    ∷ letters "  expiry deadline "  -- 120 expiry-flag
    ∷ letters "  panel already decided "  -- 121 panel-flag
    ∷ letters "  buyer's kind "  -- 122 buyer-kind
    ∷ letters "  seller's kind "  -- 123 seller-kind
    ∷ letters "  filing day "  -- 124 filing-day
    ∷ letters "  agreement "  -- 125 agreement-code
    ∷ letters "  buyer's member code "  -- 126 buyer-code
    ∷ letters "  seller's member code "  -- 127 seller-code
    ∷ letters "  execution price "  -- 128 execution-price
    ∷ letters "  best bid "  -- 129 best-bid
    ∷ letters "  best offer "  -- 130 best-offer
    ∷ letters "  official's price "  -- 131 official-price
    ∷ letters "  buyer's limit "  -- 132 buyer-limit
    ∷ letters "  seller's limit "  -- 133 seller-limit
    ∷ letters "  agreed price "  -- 134 agreed-price
    ∷ letters "  permitted differential "  -- 135 differential
    ∷ letters "  contracts "  -- 136 contracts-traded
    ∷ letters "  bid size "  -- 137 bid-size
    ∷ letters "  offer size "  -- 138 offer-size
    ∷ letters "  execution time "  -- 139 execution-time
    ∷ letters "  filing time "  -- 140 filing-time
    ∷ letters "  agreement made "  -- 141 agreement-made
    ∷ letters "  acceptance "  -- 142 acceptance-made
    ∷ letters " or more"  -- 143 or-more
    ∷ letters " or "  -- 144 or
    ∷ letters ", as long as the case is"  -- 145 case-has
    ∷ letters "; the execution price is "  -- 146 execution-is
    ∷ letters "; executed at "  -- 147 executed-at
    ∷ letters "; the agreement is "  -- 148 agreement-is
    ∷ letters " [R3."  -- 149 rule-refusal
    ∷ (letters "]" ++ (10 ∷ []))  -- 150 bracket
    ∷ []

-- the n-th; nothing where there is none
unfoldable pub phrase_of : ℕ → List ℕ
phrase_of n = get_or phrases n []

-- all of them, one after the other, and where the n-th starts
abbrev pub flat : List (List ℕ) → List ℕ
flat [] = []
flat (w ∷ ws) = w ++ flat ws

abbrev pub start_of : ℕ → List (List ℕ) → ℕ
start_of zero ws = 0
start_of (suc n) [] = 0
start_of (suc n) (w ∷ ws) = length w + start_of n ws

unfoldable pub all_phrases : List ℕ
all_phrases = flat phrases

-- how many there are
abbrev pub phrase_count : ℕ
phrase_count = 151
