-- Where the TP of a ruling came from (RULE R5.4), held against the facts and against the reason.
use Rattle.std.specs.Prelude.{ℕ, ◌≡◌, ◌⊎◌}
use Rattle.theory.specs.Theory.{theory_price, theory_origin}
use Rattle.ruling.specs.Words.{Mills, Price, Some, None, Facts, Ruling}
use Rattle.ruling.specs.Numbers.{quote_in}

-- TP, or none; and its origin: 1 a quote, 2 an official, 0 none
abbrev pub tp_of : Ruling → Price
tp_of r = theory_price r.tp

abbrev pub origin_of : Ruling → ℕ
origin_of r = theory_origin r.tp

-- TP is the price of the side's quote, which can be trusted
abbrev pub OfQuote : Facts → Ruling → Type 0
OfQuote f r = (p : Mills) × (tp_of r ≡ Some p) × (quote_in f ≡ Some p)

-- that quote is none or too wide to trust, and TP is the official's price
abbrev pub OfOfficial : Facts → Ruling → Type 0
OfOfficial f r = (p : Mills) × (tp_of r ≡ Some p) × (quote_in f ≡ None) × (f.market.official ≡ Some p)

-- the reasons without a TP: no way is open, a panel has already decided, the case waits
abbrev pub Without : ℕ → Type 0
Without reason = (reason ≡ 2) ⊎ (reason ≡ 3) ⊎ (reason ≡ 14)

-- the one exactly where the other
abbrev pub Exactly : Type 0 → Type 0 → Type 0
Exactly A B = (A → B) × (B → A)
