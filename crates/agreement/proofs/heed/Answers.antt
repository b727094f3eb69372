use mathlib.Core.Path.{◌≡◌}
use mathlib.Core.Bool.{Bool, true, false}
use Rattle.agreement.specs.Words.{Settlement, Way, Heeded, Ignored}
use Rattle.agreement.specs.Agreed.{in_time, may_nullify, terms_of, heeded_of}
use Rattle.agreement.proofs.Numbers.{numbered}
use Rattle.agreement.proofs.heed.Goals as goal

-- An agreement in time counts by its terms, any other not: what the calls gave, stated apart from them.
module _ (s : Settlement) (way : Way) (customer : Bool) {timely : Bool} (time : timely ≡ in_time s.made customer) where
  in_time_lem : {nullify : Bool} {r : Heeded} → timely ≡ true → nullify ≡ may_nullify way customer
      → r ≡ terms_of s.agreement s.agreed nullify → r ≡ heeded_of s way customer
  unfolding heeded_of
  in_time_lem held may terms = let t : in_time s.made customer ≡ true = cc in simp t cc

  too_late : timely ≡ false → Ignored ≡ heeded_of s way customer
  unfolding heeded_of
  too_late failed = let t : in_time s.made customer ≡ false = cc in simp t

pub returns : goal.returns
returns c = let a = c.args in numbered a.settlement a.way a.customer
    (in_time_lem a.settlement a.way a.customer c.in_time.ensures
    c.if-not-in_time.false c.may_nullify.ensures c.terms.ensures)

pub returns-then-not-in_time : goal.returns-then-not-in_time
returns-then-not-in_time c = let a = c.args in numbered a.settlement a.way a.customer
    (too_late a.settlement a.way a.customer c.in_time.ensures c.if-not-in_time.true)
