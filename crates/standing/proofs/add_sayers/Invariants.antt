use Rattle.quotes.specs.Quotes.{posted_in}
use Rattle.earlier.specs.Earlier.{earlier}
use Rattle.standing.specs.Standing.{sayer_of}
use Rattle.standing.proofs.Turns.{Turn}
use Rattle.standing.proofs.add_sayers.Given as goal

abbrev pub invariant-loop-i : goal.invariant-loop-i
invariant-loop-i l = Turn (sayer_of l.half l.price (earlier l.time (posted_in l.quotes))) l.at l.initial.out l.out l.i l.next
