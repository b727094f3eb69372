-- What counts of an agreement (RULE R7; document 000, struck (a)(3)(A) to (D); document 002, (d)(3)(B) and (C)) and of a Customer's
-- acceptance (RULE R8.4.3; document 002, (d)(3)(B)).
use Rattle.std.specs.Prelude.{ℕ, Bool, true, false, not, ◌||◌}
use Rattle.wire.specs.Tests.{pick}
use Rattle.facts.specs.Numbers.{seconds}
use Rattle.way.specs.Times.{no_later}
use Rattle.agreement.specs.Words.{Seconds, Price, Some, None, Moment, Agreement, NotMade, OnPrice, ToNullify, Settlement, Way, Obvious, Opening, Catastrophic, Heeded, Ignored, Repriced, Undone}

-- Where some party is a Customer an agreement is in time up to 1,800 s after notice, where none is up to 600 s (RULE R7.1).
abbrev pub agreement_time : Bool → Seconds
agreement_time customer = pick customer (seconds 1800) (seconds 600)

unfoldable pub in_time : Seconds → Bool → Bool
in_time made customer = no_later made (agreement_time customer)

abbrev pub is_opening : Way → Bool
is_opening Obvious = false
is_opening Opening = true
is_opening Catastrophic = false

-- An agreement to nullify counts where no party is a Customer, and on the opening way whoever they are (RULE R7.3).
unfoldable pub may_nullify : Way → Bool → Bool
may_nullify way customer = not customer || is_opening way

-- What was agreed: a price, which always counts, or to nullify, which counts where it may (RULE R7.2, R7.3). A price that
-- is not there can't have been agreed on (refusal 9).
abbrev pub terms_of : Agreement → Price → Bool → Heeded
terms_of NotMade agreed nullify = Ignored
terms_of OnPrice (Some p) nullify = Repriced p
terms_of OnPrice None nullify = Ignored
terms_of ToNullify agreed true = Undone
terms_of ToNullify agreed false = Ignored

-- An agreement in time is heeded by its terms; any other is ignored (RULE R7.4).
unfoldable pub heeded_of : Settlement → Way → Bool → Heeded
heeded_of s way customer = pick (in_time s.made customer) (terms_of s.agreement s.agreed (may_nullify way customer)) Ignored

-- The numbers of byte 67 for what counts: 0 nothing, 1 a price, 2 nullify.
abbrev pub heeded_number : Heeded → ℕ
heeded_number Ignored = 0
heeded_number (Repriced p) = 1
heeded_number Undone = 2

-- A Customer's acceptance counts up to 1,800 s after notice; none is no acceptance (RULE R8.4.3).
abbrev pub acceptance_time : Seconds
acceptance_time = seconds 1800

abbrev pub accepted_in_time : Moment → Bool
accepted_in_time (Some t) = no_later t acceptance_time
accepted_in_time None = false
