use Prim.Native.Nat.{ℕ}
use mathlib.Core.Path.{◌≡◌, ap, ◌∙◌}
use mathlib.Core.List.{List}
use Rattle.forms.specs.Words.{Form}
use Rattle.forms.specs.Forms.{form_of}
use Rattle.record.specs.Record.{market_of, request_of, facts_of}
use Rattle.theory.specs.Theory.{theory_of}
use Rattle.ruling.specs.Words.{Market, Request, Way, Theory, Ruling}
use Rattle.ruling.specs.Ruling.{waiting, ruled_from, ruled_on}
use Rattle.ruling.proofs.rule_on.Goals as goal

-- The theoretical price is found from the record's own market.
from : (s : List ℕ) (way : Way) {request : Request} {form : Form} {market : Market} {found t : Theory} {r : Ruling}
    → request ≡ request_of s
    → form ≡ form_of s
    → market ≡ market_of s
    → found ≡ theory_of form request.side market
    → found ≡ t
    → r ≡ ruled_from (facts_of s) way t
    → r ≡ ruled_on (facts_of s) way
unfolding facts_of ruled_on
from s way {t = t} request form market found case ruled =
    let e : t ≡ theory_of (form_of s) (request_of s).side (market_of s) = cc in ruled ∙ ap (ruled_from (facts_of s) way) e

pub returns-in_default : goal.returns-in_default
unfolding facts_of
returns-in_default c = from _ _ c.request_of-side.ensures c.form_of.ensures c.market_of.ensures c.find_theory-found.ensures.0 c.in_default.is
    (c.wait.ensures ∙ ap waiting c.trade_of.ensures)

pub returns : goal.returns
returns c = from _ _ c.request_of-side.ensures c.form_of.ensures c.market_of.ensures c.find_theory-found.ensures.0 c.in-Some.is c.rule_at.ensures
