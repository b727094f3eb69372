-- Each callable function's promise, as Rattle reads it from the contract, allows one result.
use mathlib.Core.Path.{sym, ◌∙◌}
use contract.Lifetimes.{Lfts}
use Rattle.wire.specs.Exact.{Exact}
use Rattle.quotes.proofs.posted_at.Reads as posted_at
use Rattle.quotes.proofs.check_quotes.Reads as check_quotes

pub posted_at_exact : (κs : Lfts 1) → Exact (posted_at.Post κs)
posted_at_exact κs a e e' r r' p q = p ∙ sym q

pub check_quotes_exact : (κs : Lfts 1) → Exact (check_quotes.Post κs)
check_quotes_exact κs a e e' r r' p q = p ∙ sym q
