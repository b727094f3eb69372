-- Each callable function's promise, as Rattle reads it from the contract, allows one result.
use mathlib.Core.Path.{sym, ◌∙◌}
use contract.Lifetimes.{Lfts}
use Rattle.wire.specs.Exact.{ExactIn}
use Rattle.text.proofs.add_decimal.Reads as add_decimal
use Rattle.text.proofs.add_word.Reads as add_word
use Rattle.text.proofs.add_byte.Reads as add_byte
use Rattle.text.proofs.add_price.Reads as add_price

pub add_decimal_exact : (κs : Lfts 1) → ExactIn (λ a. a.0) (add_decimal.Post κs)
add_decimal_exact κs a e e' r r' p q = (p.0 ∙ sym q.0, p.1 ∙ sym q.1)

pub add_word_exact : (κs : Lfts 2) → ExactIn (λ a. a.0) (add_word.Post κs)
add_word_exact κs a e e' r r' p q = (p.0 ∙ sym q.0, p.1 ∙ sym q.1)

pub add_byte_exact : (κs : Lfts 1) → ExactIn (λ a. a.0) (add_byte.Post κs)
add_byte_exact κs a e e' r r' p q = (p.0 ∙ sym q.0, p.1 ∙ sym q.1)

pub add_price_exact : (κs : Lfts 1) → ExactIn (λ a. a.0) (add_price.Post κs)
add_price_exact κs a e e' r r' p q = (p.0 ∙ sym q.0, p.1 ∙ sym q.1)
