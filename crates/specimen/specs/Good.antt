-- The good record of each kind, by the rows of the page's table (RULE R2.6).
use Rattle.std.specs.Prelude.{ℕ, List, [], ◌∷◌, ◌++◌, drop}
use Rattle.wire.specs.Numbers.{bytes}

-- the mark "none"
abbrev none : List ℕ
none = bytes 4 4294967295

abbrev pub good_case : List ℕ
good_case =
    bytes 2 88 ++ bytes 2 1 ++ bytes 4 7 ++ bytes 4 2000 ++ bytes 4 10 ++ bytes 4 34200 ++ bytes 4 1400 ++ bytes 4 1500 ++ bytes 4 20 ++ bytes 4 30 ++ bytes 4 0 ++ none
    ++ (1 ∷ 0 ∷ 0 ∷ 0 ∷ []) ++ (65 ∷ 66 ∷ 49 ∷ 50 ∷ []) ++ none ++ (90 ∷ 88 ∷ 57 ∷ 48 ∷ []) ++ none ++ (2 ∷ 2 ∷ 0 ∷ 0 ∷ []) ++ none ++ bytes 4 34320 ++ bytes 4 0 ++ none
    ++ bytes 4 0

-- in kind 2: another head, and behind the rows that both kinds have the permitted differential (R2.6.88)
abbrev pub good_two : List ℕ
good_two = bytes 2 92 ++ bytes 2 2 ++ drop 4 good_case ++ bytes 4 50
