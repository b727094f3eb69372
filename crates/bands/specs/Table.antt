-- The error table and the row for a TP (RULE R6.2; document 000, struck (a)(1) and (d)(1); adjustments: document 002, (d)(3)(C)).
use Rattle.std.specs.Prelude.{ℕ, List, [], ◌∷◌, leb}
use Rattle.wire.specs.Tests.{pick}
use Rattle.bands.specs.Words.{Mills, mills, Band}

-- In any table: the first row whose top is at least TP; the last row has every TP above the others.
abbrev pub among : Band → List Band → Mills → Band
among last [] tp = last
among last (b ∷ bs) tp = pick (leb tp.0 b.top.0) b (among last bs tp)

-- a row in mills: the highest TP that it serves, the obvious minimum, the catastrophic minimum, the catastrophic adjustment
abbrev pub band : ℕ → ℕ → ℕ → ℕ → Band
band t o c a = record { top = mills t; obvious = mills o; catastrophic = mills c; adjustment = mills a }

-- The page's table, its last row apart; beside each row its line on the page, where the last column is minimum and adjustment.
abbrev pub rows : List Band
rows =
    --                                      TP in $          obvious  catastrophic
    band 1999 250 1000 1000  --             below 2              .25             1
    ∷ band 5000 400 2000 2000  --           2 to 5               .40             2
    ∷ band 10000 500 3000 3000  --          above 5 to 10        .50             3
    ∷ band 20000 800 5000 5000  --          above 10 to 20       .80             5
    ∷ band 50000 1000 7000 7000  --         above 20 to 50      1.00             7
    ∷ band 100000 1000 10000 10000  --      above 50 to 100     1.00            10
    ∷ []

abbrev pub last_row : Band
last_row = band 9999999 1000 15000 15000  -- above 100           1.00            15

-- The row for a TP.
unfoldable pub band_of : Mills → Band
band_of tp = among last_row rows tp
