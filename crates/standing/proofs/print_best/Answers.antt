use mathlib.Core.Path.{◌≡◌}
use native.Mathlib.Omega.{arith}
use Rattle.text.proofs.Placed.{ran_first}
use Rattle.standing.specs.Words.{Some, None}
use Rattle.standing.specs.Standing.{best_text}
use Rattle.standing.proofs.Answers.{printed}
use Rattle.standing.proofs.print_best.Goals as goal

pub returns-in-Some : goal.returns-in-Some
unfolding best_text
returns-in-Some c =
    let e : c.read_time.result ≡ Some _ = c.in-Some.is in
    let w = c.put_found.ensures in
    rw (← c.read_time.ensures, e)
    (let p = printed _ _ _ _ (w.0, w.1) (omega (arith, w.0, w.2)) in record { value = p.0; upper_bound = p.1 })

pub returns-in-None : goal.returns-in-None
unfolding best_text
returns-in-None c =
    let e : c.read_time.result ≡ None = c.in-None.is in
    let w = c.add_word.ensures in
    rw (← c.read_time.ensures, e)
    (let p = printed _ _ _ _ (ran_first _ _ _ _ w.0 w.1) (omega arith) in record { value = p.0; upper_bound = p.1 })
