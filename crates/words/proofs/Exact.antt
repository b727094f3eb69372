-- Each callable function's promise, as Rattle reads it from the contract, allows one result.
use mathlib.Core.Path.{sym, ◌∙◌}
use contract.Lifetimes.{Lfts}
use Rattle.wire.specs.Exact.{Exact, ExactIn}
use Rattle.words.proofs.add_row.Reads as add_row
use Rattle.words.proofs.bytes_at.Reads as bytes_at
use Rattle.words.proofs.add_index.Reads as add_index
use Rattle.words.proofs.said.Reads as said
use Rattle.words.proofs.told.Reads as told
use Rattle.words.proofs.found.Reads as found

pub add_row_exact : (κs : Lfts 1) → ExactIn (λ a. a.0) (add_row.Post κs)
add_row_exact κs a e e' r r' p q = (p.0 ∙ sym q.0, p.1 ∙ sym q.1)

pub bytes_at_exact : Exact (bytes_at.Post tt)
bytes_at_exact a e e' r r' p q = p ∙ sym q

pub said_exact : Exact (said.Post tt)
said_exact a e e' r r' p q = p ∙ sym q

pub told_exact : Exact (told.Post tt)
told_exact a e e' r r' p q = p ∙ sym q

pub found_exact : Exact (found.Post tt)
found_exact a e e' r r' p q = p ∙ sym q

pub add_index_exact : (κs : Lfts 1) → ExactIn (λ a. a.0) (add_index.Post κs)
add_index_exact κs a e e' r r' p q = (p.0 ∙ sym q.0, p.1 ∙ sym q.1)
