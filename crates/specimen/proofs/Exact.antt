-- Each callable function's promise, as Rattle reads it from the contract, allows one result.
use mathlib.Core.Path.{sym, ◌∙◌}
use Rattle.wire.specs.Exact.{Exact}
use Rattle.specimen.proofs.good.Reads as good
use Rattle.specimen.proofs.good_two.Reads as good_two
use Rattle.specimen.proofs.byte.Reads as byte
use Rattle.specimen.proofs.word.Reads as word

pub good_exact : Exact (good.Post tt)
good_exact a e e' r r' p q = p ∙ sym q

pub good_two_exact : Exact (good_two.Post tt)
good_two_exact a e e' r r' p q = p ∙ sym q

pub byte_exact : Exact (byte.Post tt)
byte_exact a e e' r r' p q = p ∙ sym q

pub word_exact : Exact (word.Post tt)
word_exact a e e' r r' p q = p ∙ sym q
