-- Each callable function's promise, as Rattle reads it from the contract, allows one result.
use mathlib.Core.Path.{sym, ◌∙◌}
use Rattle.wire.specs.Exact.{Exact}
use Rattle.codes.proofs.SideCoded.from_byte.Reads as side_of
use Rattle.codes.proofs.SideCoded.byte.Reads as side_number
use Rattle.codes.proofs.KindCoded.from_byte.Reads as kind_of
use Rattle.codes.proofs.KindCoded.byte.Reads as kind_number
use Rattle.codes.proofs.DayCoded.from_byte.Reads as day_of
use Rattle.codes.proofs.DayCoded.byte.Reads as day_number
use Rattle.codes.proofs.AgreementCoded.from_byte.Reads as agreement_of
use Rattle.codes.proofs.AgreementCoded.byte.Reads as agreement_number
use Rattle.codes.proofs.BoolCoded.from_byte.Reads as flag_of
use Rattle.codes.proofs.BoolCoded.byte.Reads as flag_number

pub side_of_exact : Exact (side_of.Post tt)
side_of_exact a e e' r r' p q = p.0 ∙ sym q.0

pub kind_of_exact : Exact (kind_of.Post tt)
kind_of_exact a e e' r r' p q = p.0 ∙ sym q.0

pub day_of_exact : Exact (day_of.Post tt)
day_of_exact a e e' r r' p q = p.0 ∙ sym q.0

pub agreement_of_exact : Exact (agreement_of.Post tt)
agreement_of_exact a e e' r r' p q = p.0 ∙ sym q.0

pub flag_of_exact : Exact (flag_of.Post tt)
flag_of_exact a e e' r r' p q = p.0 ∙ sym q.0

pub side_number_exact : Exact (side_number.Post tt)
side_number_exact a e e' r r' p q = p ∙ sym q

pub kind_number_exact : Exact (kind_number.Post tt)
kind_number_exact a e e' r r' p q = p ∙ sym q

pub day_number_exact : Exact (day_number.Post tt)
day_number_exact a e e' r r' p q = p ∙ sym q

pub agreement_number_exact : Exact (agreement_number.Post tt)
agreement_number_exact a e e' r r' p q = p ∙ sym q

pub flag_number_exact : Exact (flag_number.Post tt)
flag_number_exact a e e' r r' p q = p ∙ sym q
