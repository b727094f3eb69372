-- Rulings that differ in the origin alone have the same notices (RULE R12.7): of the two cases of specs/Origins.antt.
use Rattle.std.specs.Prelude.{◌≡◌}
use Rattle.wire.specs.Numbers.{elements}
use Rattle.answer.specs.Answer.{answer_of}
use Rattle.demands.specs.Origins.{quoted, official, same_but_for_the_origin, answers_silent}

pub same_notices : elements 64 (answer_of quoted) 32 ≡ elements 64 (answer_of official) 32
same_notices = answers_silent quoted official same_but_for_the_origin.3
