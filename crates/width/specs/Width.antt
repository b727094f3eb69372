-- Quotes too wide to trust (RULE R5.6, R5.7; document 000, struck (a)(2)(B)).
use Rattle.std.specs.Prelude.{ℕ, ◌+◌, ◌*◌, Bool, false, leb}
use Rattle.width.specs.Words.{Mills, Price, Some, None}

-- The offer is at least the bid plus twice the permitted differential.
unfoldable pub apart : Mills → Mills → Mills → Bool
apart differential bid offer = leb (bid.0 + 2 * differential.0) offer.0

-- Both quotes are present and so far apart. Where the record has no differential (kind 1) they are not asked.
abbrev pub wide : Price → Price → Price → Bool
wide (Some differential) (Some bid) (Some offer) = apart differential bid offer
wide (Some differential) (Some bid) None = false
wide (Some differential) None offer = false
wide None bid offer = false
