-- Each callable function's promise, as Rattle reads it from the contract, allows one result.
use mathlib.Core.Path.{◌≡◌, refl, sym, ◌∙◌}
use contract.Lifetimes.{Lfts}
use Rattle.wire.specs.Exact.{Exact}
use Rattle.cut.specs.declared.Count.{Count}
use Rattle.cut.proofs.count_cases.Reads as count_cases
use Rattle.cut.proofs.length_at.Reads as length_at
use Rattle.cut.proofs.said_length.Reads as said_length
use Rattle.cut.proofs.start_of.Reads as start_of_lem

pub length_at_exact : (κs : Lfts 1) → Exact (length_at.Post κs)
length_at_exact κs a e e' r r' p q = p.0 ∙ sym q.0

pub said_length_exact : (κs : Lfts 1) → Exact (said_length.Post κs)
said_length_exact κs a e e' r r' p q = p.0 ∙ sym q.0

-- a count goes by its two parts
pub same_count : (r r' : Count) → r.whole ≡ r'.whole → r.cases ≡ r'.cases → r ≡ r'
same_count r r' e f = let x : r ≡ record { whole = r'.whole; cases = r'.cases } = rw (← e, ← f) refl in x

pub count_cases_exact : (κs : Lfts 1) → Exact (count_cases.Post κs)
count_cases_exact κs a e e' r r' p q = same_count r r' (p.0 ∙ sym q.0) (p.1 ∙ sym q.1)

pub start_of_exact : (κs : Lfts 1) → Exact (start_of_lem.Post κs)
start_of_exact κs a e e' r r' p q = p ∙ sym q
