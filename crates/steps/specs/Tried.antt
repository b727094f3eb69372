-- Why each way was shut, and the ways tried up to the first that is open (RULE R4).
use Rattle.std.specs.Prelude.{ℕ, ◌-◌, Bool, not, ◌||◌, [], ◌∷◌, eqb}
use Rattle.wire.specs.Tests.{pick, first_failed}
use Rattle.facts.specs.Numbers.{seconds}
use Rattle.parties.specs.Parties.{is_customer}
use Rattle.way.specs.Times.{is_trade_date, is_next_day, no_later, within}
use Rattle.way.specs.Way.{obvious_time, opening_after, opening_by, expiry_by, next_day_by}
use Rattle.steps.specs.Words.{Seconds, Request, Kind, Day, Clock, Tried, First, Second, Third, NoWay, Open, Some, None, Obvious, Opening, Catastrophic}

-- what the ways ask: the party in error, the flags, when the trade was executed and the request filed, how long that is after the
-- execution, and how long the obvious way is open to this kind of party
unfoldable pub clock_of : Seconds → Request → Kind → Clock
clock_of executed q kind =
    record {
      side = q.side;
      kind = kind;
      opening = q.opening;
      expiry = q.expiry;
      decided = q.decided;
      day = q.day;
      executed = executed;
      filed = q.filed;
      since = seconds (q.filed.0 - executed.0);
      allowed = obvious_time kind;
    }

-- The first test of a way that failed, 0 where it is open: 1 not filed on the trade date; 2 past the time of this kind of party; 3 no
-- opening trade; 4 no Customer in error; 5 too soon for the opening way; 6 too late for it; 7 too late under the expiry deadline; 8 on a
-- later day; 9 too late on the next.
unfoldable pub obvious_why : Day → Seconds → Seconds → Kind → ℕ
obvious_why day executed filed kind = first_failed ((1, is_trade_date day) ∷ (2, within (obvious_time kind) executed filed) ∷ [])

unfoldable pub opening_why : Day → Bool → Seconds → Seconds → Kind → ℕ
opening_why day opening executed filed kind =
    first_failed (
    (1, is_trade_date day)
    ∷ (3, opening)
    ∷ (4, is_customer kind)
    ∷ (5, not (within opening_after executed filed))
    ∷ (6, no_later filed opening_by)
    ∷ []
    )

unfoldable pub catastrophic_why : Day → Bool → Seconds → ℕ
catastrophic_why day expiry filed =
    pick expiry
    (first_failed ((1, is_trade_date day) ∷ (7, no_later filed expiry_by) ∷ []))
    (first_failed ((8, is_trade_date day || is_next_day day) ∷ (9, is_trade_date day || no_later filed next_day_by) ∷ []))

-- the ways tried, each with why it was shut, up to the first that is open
unfoldable pub tried_from : ℕ → ℕ → ℕ → Tried
tried_from o e c =
    pick (eqb o 0) First
    (pick (eqb e 0) (Second o)
    (pick (eqb c 0) (Third (record { obvious = o; opening = e })) (NoWay (record { obvious = o; opening = e; catastrophic = c }))))

unfoldable pub tried_of : Seconds → Request → Kind → Tried
tried_of executed q kind =
    tried_from
    (obvious_why q.day executed q.filed kind)
    (opening_why q.day q.opening executed q.filed kind)
    (catastrophic_why q.day q.expiry q.filed)

-- the way that is open, by what was tried
abbrev pub open_of : Tried → Open
open_of First = Some Obvious
open_of (Second o) = Some Opening
open_of (Third w) = Some Catastrophic
open_of (NoWay w) = None
