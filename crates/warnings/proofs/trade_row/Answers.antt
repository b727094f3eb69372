use Rattle.warnings.specs.Warned.{trade_row}
use Rattle.warnings.proofs.trade_row.Goals as goal

pub returns : goal.returns
unfolding trade_row
returns c = simp (c.said.ensures, c.told.ensures, c.said-none.ensures)
