use lib.Dec.{eqb, eqb→eq}
use lib.ListN.{get_or}
use Rattle.words.specs.Phrases.{phrases, start_of}
use Rattle.words.specs.Starts.{starts}
use Rattle.words.proofs.Table.{at}
use borrow.Author.Rules.{rules}
use Rattle.words.proofs.start_of.Goals as goal

pub returns : goal.returns
unfolding phrases starts
returns c = let n = c.args.n in eqb→eq (get_or starts n 0) (start_of n phrases) (at (λ k x. eqb x (start_of k phrases)) starts tt n (search rules))
