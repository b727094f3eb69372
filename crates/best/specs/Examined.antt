-- How many quotes are read (RULE R16.22): from the last one strictly before the trade backwards, down to and including the one by which all sixteen
-- exchanges are known, or to the first if that never comes.
use Rattle.std.specs.Prelude.{ℕ, suc, Bool, true, false, ◌&&◌, List, [], ◌∷◌, length}
use Rattle.wire.specs.Tests.{pick}
use Rattle.best.specs.Words.{Posted, Last, None, Some}
use Rattle.best.specs.Lasts.{lasts}

-- an exchange is known by any quote of it, none or not
abbrev pub known : Last → Bool
known None = false
known (Some q) = true

unfoldable pub all_known : List Last → Bool
all_known [] = true
all_known (l ∷ ls) = known l && all_known ls

-- of these quotes: where those after the first make all sixteen known, the first is not read; else it is, and with it all of them
unfoldable pub examined_in : List Posted → ℕ
examined_in [] = 0
examined_in (q ∷ qs) = pick (all_known (lasts qs)) (examined_in qs) (suc (length qs))
