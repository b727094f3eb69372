use Rattle.std.proofs.Common.{◌≡◌, drop, ◌<◌}
use Rattle.rows.specs.Rows.{number_from, number_in}
use Rattle.rows.proofs.number.Given as goal

abbrev pub invariant-loop-b : goal.invariant-loop-b
invariant-loop-b l = (l.n < 4294967296) × (number_from l.n (drop l.b-index l.text) ≡ number_in l.text)
