-- A case filled, demand 1 (RULE R13.0.1): it is filled, and every byte outside 20 to 35 is kept, or it gets one of 1 to 9 and 20 to 22 and is as it was. With
-- specs/Filled.antt.
use Rattle.std.specs.Prelude.{ℕ, List}
use contract.Lifetimes.{Lfts}
use Rattle.std.specs.Borrow.{Bor, MutBor}
use Rattle.filling.specs.Filling.{filling_of}
use Rattle.filling.proofs as filling
use Rattle.desk.proofs as desk
use Rattle.demands.specs.Ends.{FillEnded}
use Rattle.demands.proofs.Ended as end

pub fill_ended : (q s : List ℕ) → FillEnded (filling_of q s).0 s (filling_of q s).1
fill_ended = end.fill_ended

-- So every call of `fill_case` and `desk_fill_case`.
module _ (κs : Lfts 2) (q q' : Bor (List ℕ)) (s s' : MutBor (List ℕ)) (n : ℕ) where
  pub fill_case_ends : filling.fill_case.Reads.Post κs (q, (s, tt)) n (q', (s', tt)) → FillEnded n s.now s'.now
  fill_case_ends p = rw (p.0, p.1) (fill_ended q.now s.now)

  pub desk_fill_case_ends : desk.desk_fill_case.Reads.Post κs (q, (s, tt)) n (q', (s', tt)) → FillEnded n s.now s'.now
  desk_fill_case_ends p = rw (p.0, p.1) (fill_ended q.now s.now)
