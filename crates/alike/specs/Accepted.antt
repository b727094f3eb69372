-- A Customer's acceptance (RULE R2.10, R8.4.3): the same facts with another one, and a ruling that did not ask for it.
use Rattle.std.specs.Prelude.{◌≡◌}
use Rattle.alike.specs.Words.{Moment, Facts, Ruling}

-- the same facts with this acceptance
abbrev pub accepted_at : Facts → Moment → Facts
accepted_at f m =
    record {
      form = f.form;
      trade = f.trade;
      market = f.market;
      request = f.request;
      buyer = f.buyer;
      seller = f.seller;
      settlement =
          record { agreement = f.settlement.agreement; agreed = f.settlement.agreed; made = f.settlement.made; accepted = m };
    }

-- the reason is neither 9, adjusted past a Customer's limit by acceptance, nor 12, nullified for want of one
abbrev pub NotAsked : Ruling → Type 0
NotAsked r = (r.reason ≡ 9 → ⊥) × (r.reason ≡ 12 → ⊥)
