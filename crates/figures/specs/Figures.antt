-- A ruling in the page's numbers (RULE R10.1).
use Rattle.facts.specs.Numbers.{price_number}
use Rattle.theory.specs.Theory.{theory_number, theory_origin}
use Rattle.ruling.specs.Outcomes.{outcome_number, new_price, counts_of}
use Rattle.figures.specs.Words.{Ruling, Figures}

-- The outcome 0 no relief, 1 adjusted, 2 nullified, 3 waiting; TP or none, and its origin 1 a quote, 2 an official, 0 none; the new price, none
-- unless adjusted; the contracts adjusted, nullified and standing.
abbrev pub figures_of : Ruling → Figures
figures_of r =
    record {
      trade = r.trade;
      outcome = outcome_number r.outcome;
      reason = r.reason;
      origin = theory_origin r.tp;
      tp = theory_number r.tp;
      price = price_number (new_price r.outcome);
      adjusted = (counts_of r.outcome).adjusted.0;
      nullified = (counts_of r.outcome).nullified.0;
      standing = (counts_of r.outcome).standing.0;
    }
