-- What goes out (RULE R10.1, R10.2; document 003, Commentary .03): the ruling record and the two notices, 32 bytes each, a row of the page to a line.
use Rattle.std.specs.Prelude.{ℕ, Bool, List, [], ◌∷◌, ◌++◌}
use Rattle.wire.specs.Numbers.{bytes, elements}
use Rattle.wire.specs.Tests.{pick, in_range}
use Rattle.codes.specs.Codes.{side_number}
use Rattle.figures.specs.Figures.{figures_of}
use Rattle.notices.specs.Words.{Side, Buy, Sell, Ruling, Figures}

-- ---- how both records begin; at 10 each has a byte of its own
abbrev pub start_bytes : ℕ → Figures → ℕ → List ℕ
start_bytes kind n own =
    -- 0 length 32
    bytes 2 32
    -- 2 kind
    ++ bytes 2 kind
    -- 4 trade number
    ++ bytes 4 n.trade
    -- 8 outcome; 9 reason; 10 the own byte; 11 zero
    ++ (n.outcome ∷ n.reason ∷ own ∷ 0 ∷ [])

-- ---- the ruling record, kind 16; 10 the origin of TP (1 quote, 2 official, 0 none)
abbrev pub ruled_bytes : Figures → List ℕ
ruled_bytes n =
    -- 12 TP, or none
    bytes 4 n.tp
    -- 16 new price, none unless adjusted
    ++ bytes 4 n.price
    -- 20 contracts adjusted
    ++ bytes 4 n.adjusted
    -- 24 contracts nullified
    ++ bytes 4 n.nullified
    -- 28 contracts standing
    ++ bytes 4 n.standing

unfoldable pub ruling_record : Figures → List ℕ
ruling_record n = start_bytes 16 n n.origin ++ ruled_bytes n

abbrev pub ruling_bytes : Ruling → List ℕ
ruling_bytes r = ruling_record (figures_of r)

-- ---- a notice, kind 17; 10 recipient (1 buyer, 2 seller)
abbrev pub told_bytes : Figures → List ℕ
told_bytes n =
    -- 12 new price, none unless adjusted
    bytes 4 n.price
    -- 16 contracts adjusted
    ++ bytes 4 n.adjusted
    -- 20 contracts nullified
    ++ bytes 4 n.nullified

-- a party learns the other's code where the trade is repriced (1) or undone (2), and nowhere else
unfoldable pub shows : ℕ → Bool
shows outcome = in_range 1 2 outcome

unfoldable pub shown_code : ℕ → List ℕ → List ℕ
shown_code outcome code = pick (shows outcome) code (0 ∷ 0 ∷ 0 ∷ 0 ∷ [])

abbrev pub code_bytes : ℕ → List ℕ → List ℕ → List ℕ
code_bytes outcome code other =
    -- 24 the other party's code if the outcome is 1 or 2, else zeros
    elements 4 (shown_code outcome other) 0
    -- 28 the recipient's code
    ++ elements 4 code 0

-- to a recipient, with the recipient's code and the other party's
unfoldable pub notice_record : Figures → Side → List ℕ → List ℕ → List ℕ
notice_record n recipient code other = start_bytes 17 n (side_number recipient) ++ told_bytes n ++ code_bytes n.outcome code other

abbrev pub notice_bytes : Ruling → Side → List ℕ → List ℕ → List ℕ
notice_bytes r recipient code other = notice_record (figures_of r) recipient code other

-- ---- an answer, 96 bytes: the ruling record, the buyer's notice, the seller's notice
unfoldable pub answer_records : Figures → List ℕ → List ℕ → List ℕ
answer_records n buyer seller = ruling_record n ++ notice_record n Buy buyer seller ++ notice_record n Sell seller buyer

abbrev pub answer_bytes : Ruling → List ℕ → List ℕ → List ℕ
answer_bytes r buyer seller = answer_records (figures_of r) buyer seller
