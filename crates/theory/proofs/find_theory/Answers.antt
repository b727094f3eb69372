use mathlib.Core.Path.{◌≡◌, sym, ap, ◌∙◌}
use mathlib.Core.Bool.{Bool, true, false}
use Rattle.facts.proofs.Numbers.{spelled}
use Rattle.facts.specs.Numbers.{price_number}
use Rattle.forms.specs.Forms.{differential_of}
use Rattle.width.specs.Width.{wide}
use Rattle.theory.specs.Words.{Price, Form, Market, Side, Quote, Theory}
use Rattle.theory.specs.Theory.{source_of, too_wide, theory_of, theory_number, theory_origin, trusted_price, origin_among, or_else}
use Rattle.theory.proofs.Prices.{theory_number_lem, theory_origin_lem, theory_wide, theory_trusted}
use Rattle.theory.proofs.find_theory.Goals as goal

-- what the two calls say of the quotes
asked : (form : Form) (m : Market) {d : Price} {told told' : Bool} → d ≡ differential_of form → told ≡ wide d m.bid.price m.offer.price → told ≡ told'
    → too_wide form m ≡ told'
asked form m differential width test = cc

module _ (form : Form) (side : Side) (m : Market) (r : Theory) (e : r ≡ theory_of form side m) where
  in_numbers : (r ≡ theory_of form side m)
      × (theory_number r ≡ price_number (or_else (trusted_price form side m) m.official))
      × (theory_origin r ≡ origin_among (trusted_price form side m) m.official)
  in_numbers =
      let n = spelled theory_number (theory_number_lem form side m) e in
      (n.0, n.1, (spelled theory_origin (theory_origin_lem form side m) e).1)

pub returns-then-is_wide : goal.returns-then-is_wide
returns-then-is_wide c = let a = c.args in let t = asked a.form a.market c.differential_of.ensures c.is_wide.ensures c.if-is_wide.true in
    in_numbers a.form a.side a.market _ (c.take_official.ensures ∙ sym (theory_wide a.form a.side a.market t))

pub returns : goal.returns
returns c = let a = c.args in let t = asked a.form a.market c.differential_of.ensures c.is_wide.ensures c.if-is_wide.false in
    let quote = ap (λ (q : Quote). source_of q.price q.size a.market.official) c.quote_for.ensures in
    in_numbers a.form a.side a.market _ (c.take_source.ensures ∙ quote ∙ sym (theory_trusted a.form a.side a.market t))
