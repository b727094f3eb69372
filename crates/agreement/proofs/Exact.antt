-- Each callable function's promise, as Rattle reads it from the contract, allows one result.
use mathlib.Core.Path.{sym, ◌∙◌}
use Rattle.wire.specs.Exact.{Exact}
use Rattle.agreement.proofs.agreement_time.Reads as agreement_time
use Rattle.agreement.proofs.in_time.Reads as in_time
use Rattle.agreement.proofs.may_nullify.Reads as may_nullify
use Rattle.agreement.proofs.heed.Reads as heed
use Rattle.agreement.proofs.accepted_in_time.Reads as accepted_in_time

pub agreement_time_exact : Exact (agreement_time.Post tt)
agreement_time_exact a e e' r r' p q = p ∙ sym q

pub in_time_exact : Exact (in_time.Post tt)
in_time_exact a e e' r r' p q = p ∙ sym q

pub may_nullify_exact : Exact (may_nullify.Post tt)
may_nullify_exact a e e' r r' p q = p ∙ sym q

pub heed_exact : Exact (heed.Post tt)
heed_exact a e e' r r' p q = p.0 ∙ sym q.0

pub accepted_in_time_exact : Exact (accepted_in_time.Post tt)
accepted_in_time_exact a e e' r r' p q = p ∙ sym q
