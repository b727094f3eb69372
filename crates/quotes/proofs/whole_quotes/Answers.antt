use Rattle.quotes.specs.Quotes.{whole_quotes}
use mathlib.Core.Path.{refl}
use Rattle.quotes.proofs.whole_quotes.Goals as goal

pub returns : goal.returns
unfolding whole_quotes
returns c = refl
