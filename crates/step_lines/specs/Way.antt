-- The way's rows (RULE R17.5): the way and when the request was filed, then why each way before it was shut.
use Rattle.std.specs.Prelude.{ℕ, List, [], ◌∷◌, eqb}
use Rattle.wire.specs.Tests.{pick}
use Rattle.way.specs.Way.{opening_after, opening_by, expiry_by, next_day_by}
use Rattle.words.specs.Names.{on_words, comma_words, after_execution_words, executed_words, way_obvious_words, way_opening_words, way_catastrophic_words, way_none_words, rule_obvious_words, rule_opening_words, rule_catastrophic_words, rule_late_words, not_obvious_day_words, not_obvious_time_words, for_words, not_opening_day_words, not_opening_trade_words, not_opening_party_words, not_opening_soon_words, not_opening_late_words, not_catastrophic_day_words, not_catastrophic_expiry_words, not_catastrophic_next_words, open_up_to_words, filed_on_words, panel_words, rule_panel_words}
use Rattle.words.specs.Pieces.{bytes_at, say, tell, found, blank}
use Rattle.step_lines.specs.Words.{Seconds, Day, TradeDate, NextDay, Later, Clock, Tried, First, Second, Third, NoWay, Time, On, Who, Flag, Piece}
use Rattle.step_lines.specs.Rows.{passed, kind_place}

-- ---- the way and the filing

abbrev pub way_phrase : Tried → ℕ
way_phrase First = way_obvious_words
way_phrase (Second o) = way_opening_words
way_phrase (Third w) = way_catastrophic_words
way_phrase (NoWay w) = way_none_words

abbrev pub way_rule : Tried → ℕ
way_rule First = rule_obvious_words
way_rule (Second o) = rule_opening_words
way_rule (Third w) = rule_catastrophic_words
way_rule (NoWay w) = rule_late_words

-- on the trade date, how long after the execution
abbrev pub since_piece : Day → Seconds → Piece
since_piece TradeDate since = tell comma_words (passed since)
since_piece NextDay since = blank
since_piece Later since = blank

abbrev pub executed_phrase : Day → ℕ
executed_phrase TradeDate = after_execution_words
executed_phrase NextDay = executed_words
executed_phrase Later = executed_words

unfoldable pub filed_row : Clock → Tried → List Piece
filed_row c t =
    found (way_phrase t) (Time c.filed) (bytes_at 72 4)
    ∷ found on_words (On c.day) (bytes_at 66 1)
    ∷ since_piece c.day c.since
    ∷ found (executed_phrase c.day) (Time c.executed) (bytes_at 16 4)
    ∷ say (way_rule t)
    ∷ blank ∷ blank ∷ blank ∷ blank ∷ blank ∷ []

-- ---- why a way was shut

-- filed on another day than the way asks for
unfoldable pub day_row : ℕ → ℕ → Clock → List Piece
day_row phrase rule c = found phrase (On c.day) (bytes_at 66 1) ∷ say rule ∷ blank ∷ blank ∷ blank ∷ blank ∷ blank ∷ blank ∷ blank ∷ blank ∷ []

-- past the time that this kind of party has
unfoldable pub past_row : Clock → List Piece
past_row c =
    found not_obvious_time_words (Who c.kind) (kind_place c.side)
    ∷ tell for_words (passed c.allowed)
    ∷ say rule_obvious_words
    ∷ blank ∷ blank ∷ blank ∷ blank ∷ blank ∷ blank ∷ blank ∷ []

-- no opening trade
unfoldable pub trade_row : Clock → List Piece
trade_row c = found not_opening_trade_words (Flag c.opening) (bytes_at 45 1) ∷ say rule_opening_words ∷ blank ∷ blank ∷ blank ∷ blank ∷ blank ∷ blank ∷ blank ∷ blank ∷ []

-- no Customer in error
unfoldable pub party_row : Clock → List Piece
party_row c = found not_opening_party_words (Who c.kind) (kind_place c.side) ∷ say rule_opening_words ∷ blank ∷ blank ∷ blank ∷ blank ∷ blank ∷ blank ∷ blank ∷ blank ∷ []

unfoldable pub soon_row : List Piece
soon_row = tell not_opening_soon_words (passed opening_after) ∷ say rule_opening_words ∷ blank ∷ blank ∷ blank ∷ blank ∷ blank ∷ blank ∷ blank ∷ blank ∷ []

unfoldable pub late_row : List Piece
late_row = tell not_opening_late_words (Time opening_by) ∷ say rule_opening_words ∷ blank ∷ blank ∷ blank ∷ blank ∷ blank ∷ blank ∷ blank ∷ blank ∷ []

-- under the expiry deadline: on another day; too late
unfoldable pub expiry_day_row : Clock → List Piece
expiry_day_row c =
    found not_catastrophic_expiry_words (Flag c.expiry) (bytes_at 46 1)
    ∷ found filed_on_words (On c.day) (bytes_at 66 1)
    ∷ say rule_catastrophic_words
    ∷ blank ∷ blank ∷ blank ∷ blank ∷ blank ∷ blank ∷ blank ∷ []

unfoldable pub expiry_late_row : Clock → List Piece
expiry_late_row c =
    found not_catastrophic_expiry_words (Flag c.expiry) (bytes_at 46 1)
    ∷ tell open_up_to_words (Time expiry_by)
    ∷ say rule_catastrophic_words
    ∷ blank ∷ blank ∷ blank ∷ blank ∷ blank ∷ blank ∷ blank ∷ []

unfoldable pub next_late_row : List Piece
next_late_row = tell not_catastrophic_next_words (Time next_day_by) ∷ say rule_catastrophic_words ∷ blank ∷ blank ∷ blank ∷ blank ∷ blank ∷ blank ∷ blank ∷ blank ∷ []

-- by the cause (`steps`, Tried)
abbrev pub obvious_shut : ℕ → Clock → List Piece
obvious_shut cause c = pick (eqb cause 1) (day_row not_obvious_day_words rule_obvious_words c) (past_row c)

abbrev pub opening_shut : ℕ → Clock → List Piece
opening_shut cause c =
    pick (eqb cause 1) (day_row not_opening_day_words rule_opening_words c)
    (pick (eqb cause 3) (trade_row c) (pick (eqb cause 4) (party_row c) (pick (eqb cause 5) soon_row late_row)))

abbrev pub catastrophic_shut : ℕ → Clock → List Piece
catastrophic_shut cause c =
    pick (eqb cause 1) (expiry_day_row c)
    (pick (eqb cause 7) (expiry_late_row c) (pick (eqb cause 8) (day_row not_catastrophic_day_words rule_catastrophic_words c) next_late_row))

-- the ways before the open one, each with why it was shut
abbrev pub before_rows : Clock → Tried → List (List Piece)
before_rows c First = []
before_rows c (Second o) = obvious_shut o c ∷ []
before_rows c (Third w) = obvious_shut w.obvious c ∷ opening_shut w.opening c ∷ []
before_rows c (NoWay w) = obvious_shut w.obvious c ∷ opening_shut w.opening c ∷ catastrophic_shut w.catastrophic c ∷ []

-- the way, then those before it
abbrev pub way_rows : Clock → Tried → List (List Piece)
way_rows c t = filed_row c t ∷ before_rows c t

-- a panel has already decided
unfoldable pub panel_row : Clock → List Piece
panel_row c = found panel_words (Flag c.decided) (bytes_at 47 1) ∷ say rule_panel_words ∷ blank ∷ blank ∷ blank ∷ blank ∷ blank ∷ blank ∷ blank ∷ blank ∷ []
