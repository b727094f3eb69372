-- Values that rows share, and the places of what stands on the one side or the other (RULE R2.6).
use Rattle.parties.specs.Parties.{by_side}
use Rattle.words.specs.Pieces.{bytes_at}
use Rattle.step_lines.specs.Words.{Mills, Seconds, Price, Some, Moment, Side, Place, Value, Dollars, Lapse}

-- a price that is there; seconds that have passed
abbrev pub money : Mills → Value
money m = Dollars (Some m)

abbrev pub passed : Seconds → Value
passed t = Lapse (Some t)

-- the kind and the limit of the party on a side; the quote that a side in error is held against, and its size
abbrev pub kind_place : Side → Place
kind_place side = by_side side (bytes_at 64 1) (bytes_at 65 1)

abbrev pub limit_place : Side → Place
limit_place side = by_side side (bytes_at 52 4) (bytes_at 60 4)

abbrev pub quote_place : Side → Place
quote_place side = by_side side (bytes_at 24 4) (bytes_at 20 4)

abbrev pub size_place : Side → Place
size_place side = by_side side (bytes_at 32 4) (bytes_at 28 4)
