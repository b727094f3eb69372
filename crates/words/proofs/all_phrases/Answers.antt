use mathlib.Core.Path.{refl}
use Rattle.words.specs.Phrases.{phrases, all_phrases}
use Rattle.words.proofs.all_phrases.Goals as goal

pub returns : goal.returns
unfolding phrases all_phrases
returns c = refl
