use Rattle.blame.specs.Fields.{field_ok}
use Rattle.wire.specs.Tests.{in_range}
use Rattle.blame.proofs.Ranges.{le_test}
use Rattle.blame.proofs.Field.is_ok.Goals as goal

pub returns : goal.returns
unfolding field_ok in_range
returns c = simp (c.contains.ensures.value, c.contains-2.ensures.value, c.new.ensures.start, c.new.ensures.end, c.new.ensures.exhausted, c.new-2.ensures.start, c.new-2.ensures.end, c.new-2.ensures.exhausted, le_test)
