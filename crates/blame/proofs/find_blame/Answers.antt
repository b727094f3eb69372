use mathlib.Core.Path.{ap}
use mathlib.Core.Bool.{not}
use Rattle.blame.proofs.Row.{length_stops, long_enough, bytes_tell}
use Rattle.blame.proofs.find_blame.Goals as goal

pub returns-then-not-is_ok : goal.returns-then-not-is_ok
returns-then-not-is_ok c = length_stops _ _ _ c.case_length-long.ensures c.is_ok.ensures (ap not c.if-not-is_ok.true)

pub blame_inside-requires : goal.blame_inside-requires
blame_inside-requires c = long_enough _ _ _ c.case_length-long.ensures c.is_ok.ensures (ap not c.if-not-is_ok.false)

pub returns : goal.returns
returns c = bytes_tell _ _ _ c.case_length-long.ensures c.is_ok.ensures (ap not c.if-not-is_ok.false) _ c.blame_inside.ensures
