-- Each exchange's last quote among these (RULE R16.3, R16.4). A list of quotes is in the order in which they came: the last of them stands last.
use Rattle.std.specs.Prelude.{ℕ, zero, suc, List, [], ◌∷◌, eqb}
use Rattle.wire.specs.Tests.{pick}
use Rattle.best.specs.Words.{Posted, Last, None, Some}

-- the first, unless that is nothing
abbrev pub or_else : Last → Last → Last
or_else None l = l
or_else (Some q) l = Some q

-- the last of these quotes that is of this exchange; an older one is never asked, whatever the last one says
unfoldable pub last_of : ℕ → List Posted → Last
last_of e [] = None
last_of e (q ∷ qs) = or_else (last_of e qs) (pick (eqb q.exchange e) (Some q) None)

-- the last quote of each of n exchanges from number e on
unfoldable pub lasts_from : ℕ → ℕ → List Posted → List Last
lasts_from e zero qs = []
lasts_from e (suc n) qs = last_of e qs ∷ lasts_from (suc e) n qs

-- of the sixteen
abbrev pub lasts : List Posted → List Last
lasts qs = lasts_from 1 16 qs
