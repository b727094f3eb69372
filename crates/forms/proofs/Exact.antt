-- Each callable function's promise, as Rattle reads it from the contract, allows one result.
use mathlib.Core.Path.{refl, sym, ◌∙◌}
use contract.Lifetimes.{Lfts}
use Rattle.wire.specs.Exact.{Exact, ExactIn}
use Rattle.forms.proofs.is_length.Reads as is_length
use Rattle.forms.proofs.is_known.Reads as is_Known
use Rattle.forms.proofs.length_of.Reads as length_of
use Rattle.forms.proofs.kind_of.Reads as kind_of
use Rattle.forms.proofs.differential_of.Reads as differential_of
use Rattle.forms.proofs.form_of.Reads as form_of
use Rattle.forms.proofs.put_form.Reads as put_form

pub is_length_exact : Exact (is_length.Post tt)
is_length_exact a e e' r r' p q = p ∙ sym q

pub is_known_exact : Exact (is_Known.Post tt)
is_known_exact a e e' r r' p q = p ∙ sym q

pub length_of_exact : Exact (length_of.Post tt)
length_of_exact a e e' r r' p q = p ∙ sym q

pub kind_of_exact : Exact (kind_of.Post tt)
kind_of_exact a e e' r r' p q = p ∙ sym q

pub differential_of_exact : Exact (differential_of.Post tt)
differential_of_exact a e e' r r' p q = p ∙ sym q

pub form_of_exact : (κs : Lfts 1) → Exact (form_of.Post κs)
form_of_exact κs a e e' r r' p q = p ∙ sym q

pub put_form_exact : (κs : Lfts 1) → ExactIn (λ a. a.0) (put_form.Post κs)
put_form_exact κs a e e' r r' p q = (refl, p ∙ sym q)
