use mathlib.Core.Bool.{true, false}
use mathlib.Core.Path.{◌≡◌}
use Rattle.notices.specs.Records.{shows, shown_code}
use Rattle.notices.proofs.put_shown.Goals as goal

pub returns-then-shows : goal.returns-then-shows
unfolding shown_code
returns-then-shows c = let s : shows c.args.outcome ≡ true = cc in
    simp s c.put_u32.ensures

pub returns : goal.returns
unfolding shown_code
returns c = let s : shows c.args.outcome ≡ false = cc in
    simp s c.put_u32-2.ensures
