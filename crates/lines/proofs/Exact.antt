-- Each callable function's promise, as Rattle reads it from the contract, allows one result.
use mathlib.Core.Path.{sym, ◌∙◌}
use contract.Lifetimes.{Lfts}
use Rattle.wire.specs.Exact.{ExactIn}
use Rattle.lines.proofs.put_ruled.Reads as put_ruled
use Rattle.lines.proofs.put_refused.Reads as Put-refused
use Rattle.lines.proofs.put_header.Reads as put_header
use Rattle.lines.proofs.put_end.Reads as put_end
use Rattle.lines.proofs.put_sheet.Reads as put_sheet

pub put_ruled_exact : (κs : Lfts 1) → ExactIn (λ a. a.0) (put_ruled.Post κs)
put_ruled_exact κs a e e' r r' p q = (p.0 ∙ sym q.0, p.1 ∙ sym q.1)

pub put_refused_exact : (κs : Lfts 1) → ExactIn (λ a. a.0) (Put-refused.Post κs)
put_refused_exact κs a e e' r r' p q = (p.0 ∙ sym q.0, p.1 ∙ sym q.1)

pub put_header_exact : (κs : Lfts 1) → ExactIn (λ a. a.0) (put_header.Post κs)
put_header_exact κs a e e' r r' p q = (p.0 ∙ sym q.0, p.1 ∙ sym q.1)

pub put_end_exact : (κs : Lfts 1) → ExactIn (λ a. a.0) (put_end.Post κs)
put_end_exact κs a e e' r r' p q = (p.0 ∙ sym q.0, p.1 ∙ sym q.1)

pub put_sheet_exact : (κs : Lfts 1) → ExactIn (λ a. a.0) (put_sheet.Post κs)
put_sheet_exact κs a e e' r r' p q = (p.0 ∙ sym q.0, p.1 ∙ sym q.1)
